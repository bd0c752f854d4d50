use Rattle.std.proofs.Common.{ℕ, List, [], ◌∷◌, Ok, refl, sym, ap, subst, ◌∙◌}
use Rattle.std.specs.Prelude.{map}
use Rattle.ca_arena.specs.declared.handle.Handle.{Handle}
use Rattle.ca_text.specs.Place.{At}
use Rattle.ca_text.proofs.Places.{At-map}
use Rattle.ca_model.specs.History.{Called, Intent, Line}
use Rattle.ca_model.specs.History as history
use Rattle.ca_model.specs.World.{Joined, grown}
use Rattle.ca_model.specs.World as model
use Rattle.ca_server_core.proofs.Posted.{same-error}
use Rattle.ca_world_data.specs.declared.cancelling.Cancelling.{Cancelling}
use Rattle.ca_world_data.specs.declared.client.ClientSide.{ClientSide}
use Rattle.ca_world_data.specs.Logs.{lines_in}
use Rattle.ca_world_data.specs.Seen.{client_of, intent_of, joined_of, named_of}
use Rattle.ca_world_data.specs.Speaking.{GoesUp}
use Rattle.ca_world_data.specs.Unsubscribes.{UnsubscribesOn}
use Rattle.ca_world.proofs.Cancellings.{unsubscribes-done, unsubscribes-moved, unsubscribes-noted, unsubscribes-unready}
use Rattle.ca_world.proofs.unsubscribe.unsubscribe_on.Goals as goal

pub returns-in-Ok-clause-unsubscribes : goal.returns-in-Ok-clause-unsubscribes
returns-in-Ok-clause-unsubscribes c =
    let i : ℕ = c.args.client in
    let n : ℕ = c.args.subscription in
    let x : ClientSide = c.args.side.now in
    let w : Cancelling = c.in_ok-way.way in
    let r = c.in_ok-way.ensures.ready in
    let s : Handle × Intent = (w.handle, intent_of w.meant) in
    let named : At (map named_of x.names.subscriptions.items) n s = At-map named_of x.names.subscriptions.items n (w.handle, w.meant) r.named in
    let logs : List (List Line) = lines_in c.prepare_cancel.new.logs.items in
    let logs' : List (List Line) = lines_in c.push_line.new.logs.items in
    let ks : List Joined = map joined_of c.prepare_cancel.new.circuits.items in
    let ks' : List Joined = map joined_of c.push_sent.new.circuits.items in
    let x' : model.ClientSide = record (client_of x) { core = c.unsubscribe.new.self } in
    let meant = c.to_cancel-meant.ensures in
    unsubscribes-moved i n (client_of x) x' (lines_in c.args.logs.now.items) logs logs' (map joined_of c.args.circuits.now.items) ks ks' (Ok tt)
    c.prepare_cancel.ensures.logs c.prepare_cancel.ensures.circuits
    (unsubscribes-done i n (client_of x) x' logs logs' ks ks' s w x.circuits.items c.in-Ok.ensures.0 tt
    named refl (c.requires.theirs n s named) r.way r.numbered c.in-Ok.ensures.1
    refl
    (c.push_line.ensures ∙ ap (λ (m : Intent). grown x.life (Called m history.Nothing ∷ []) logs) meant)
    (subst (λ (z : history.Sent). GoesUp w.circuit z ks ks') (λ t. record { message = c.event_cancel_request-message.ensures t; intent = meant t }) c.push_sent.ensures.goes))

pub returns-in-Err-clause-unsubscribes : goal.returns-in-Err-clause-unsubscribes
returns-in-Err-clause-unsubscribes c =
    let n : ℕ = c.args.subscription in
    let x : ClientSide = c.args.side.now in
    let w : Cancelling = c.in_ok-way.way in
    let r = c.in_ok-way.ensures.ready in
    let s : Handle × Intent = (w.handle, intent_of w.meant) in
    let named : At (map named_of x.names.subscriptions.items) n s = At-map named_of x.names.subscriptions.items n (w.handle, w.meant) r.named in
    unsubscribes-moved c.args.client n (client_of x) _ (lines_in c.args.logs.now.items) (lines_in c.prepare_cancel.new.logs.items) _ (map joined_of c.args.circuits.now.items) (map joined_of c.prepare_cancel.new.circuits.items) _ _
    c.prepare_cancel.ensures.logs c.prepare_cancel.ensures.circuits
    (unsubscribes-noted c.args.client n (client_of x) _ (lines_in c.prepare_cancel.new.logs.items) _ (map joined_of c.prepare_cancel.new.circuits.items) s c.in-Err.refusal c.in-Err.ensures.0 c.unsubscribe.new.self c.note.result
    named c.in-Err.ensures.1 refl c.note.ensures)

pub returns-in_err-way-clause-unsubscribes : goal.returns-in_err-way-clause-unsubscribes
returns-in_err-way-clause-unsubscribes c =
    let n : ℕ = c.args.subscription in
    let x : ClientSide = c.args.side.now in
    unsubscribes-moved c.args.client n (client_of x) (client_of x) (lines_in c.args.logs.now.items) (lines_in c.prepare_cancel.new.logs.items) (lines_in c.prepare_cancel.new.logs.items) (map joined_of c.args.circuits.now.items) (map joined_of c.prepare_cancel.new.circuits.items) (map joined_of c.prepare_cancel.new.circuits.items) c.from_residual.result
    c.prepare_cancel.ensures.logs c.prepare_cancel.ensures.circuits
    (subst (λ r. UnsubscribesOn c.args.client n (client_of x) (lines_in c.prepare_cancel.new.logs.items) (map joined_of c.prepare_cancel.new.circuits.items) r (client_of x) (lines_in c.prepare_cancel.new.logs.items) (map joined_of c.prepare_cancel.new.circuits.items))
    (sym (same-error c.from_residual.result c.in_err-way.field-0.0 c.from_residual.ensures.1))
    (unsubscribes-unready c.args.client n x (lines_in c.prepare_cancel.new.logs.items) (map joined_of c.prepare_cancel.new.circuits.items) c.in_err-way.field-0.0 c.in_err-way.ensures.ready))
