use Rattle.std.proofs.Common.{◌≡◌, ℕ, List, [], ◌∷◌, ◌++◌, Ok, length, arith, refl, sym, ap, subst, ◌∙◌}
use Rattle.std.specs.Prelude.{map}
use Rattle.std.proofs.lemmas.List.{length-map, map-append}
use Rattle.ca_arena.specs.declared.handle.Handle.{Handle}
use Rattle.ca_ids.specs.Wire.{wire_of}
use Rattle.ca_ids.specs.Table.{is_full}
use Rattle.ca_wire.specs.Fields.{IsPayload}
use Rattle.ca_wire.proofs.Padding.{padded-payload}
use Rattle.ca_wire.specs.Messages.{on_channel, put_request}
use Rattle.ca_dbr.specs.Elements.{Elements, base_of, bytes_of, count_of, elements}
use Rattle.ca_dbr.specs.Types.{base_number}
use Rattle.ca_text.specs.declared.command.Command.TheVariants as command
use Rattle.ca_wire.specs.declared.requests.Wanted.{Wanted}
use Rattle.ca_world_data.proofs.Fitting.{put-fits}
use Rattle.ca_model.specs.History.{Called, Line, On, Request}
use Rattle.ca_model.specs.History as history
use Rattle.ca_model.specs.World.{Joined, grown}
use Rattle.ca_model.specs.World as model
use Rattle.ca_laws_parts.specs.Circuit.{AreGiven}
use Rattle.ca_world_data.specs.declared.client.ClientSide.{ClientSide}
use Rattle.ca_world_data.specs.declared.way.ChannelRoute.{ChannelRoute}
use Rattle.ca_world_data.specs.Logs.{lines_in}
use Rattle.ca_world_data.specs.Seen.{client_of, joined_of, named_of}
use Rattle.ca_world_data.specs.Puts.{put_names}
use Rattle.ca_world_data.specs.Speaking.{GoesUp}
use Rattle.ca_world.proofs.Putting.{puts-done, puts-moved, puts-noted}
use Rattle.ca_world.proofs.write_notify.write_notify_on.Goals as goal

pub with_payload-message-requires : goal.with_payload-message-requires
with_payload-message-requires c =
    let a : Elements = elements c.args.value.now in
    let fits = put-fits c.prepare.new.side.core (is_full c.prepare.new.side.core.requests) c.in_ok-handle.handle a c.in-Ok.ensures.1.0 c.in-Ok.ensures.1.1 c.in-Ok.ensures.1.2 in
    subst (λ (z : List ℕ). IsPayload z) (sym c.in_ok-payload.ensures) (padded-payload (bytes_of a) fits.1)

pub returns-in-Ok-clause-puts : goal.returns-in-Ok-clause-puts
returns-in-Ok-clause-puts c =
    let i : ℕ = c.args.client in
    let ch : ℕ = c.args.channel in
    let x : ClientSide = c.args.side.now in
    let y : ClientSide = c.prepare.new.side in
    let q : Handle = c.in-Ok.request in
    let way : ChannelRoute = c.in_ok-handle.way in
    let a : Elements = elements c.args.value.now in
    let r = c.in_ok-handle.ensures.ready in
    let logs : List (List Line) = lines_in c.prepare.new.logs.items in
    let logs' : List (List Line) = lines_in c.push_line.new.logs.items in
    let ks : List Joined = map joined_of c.prepare.new.circuits.items in
    let ks' : List Joined = map joined_of c.push_sent.new.circuits.items in
    let given : AreGiven (client_of y).names.requests y.core.requests = subst (λ (z : model.ClientSide). AreGiven z.names.requests z.core.requests) (sym c.prepare.ensures.side) c.requires.given in
    let number : c.len-number.result ≡ length (client_of y).names.requests = omega (arith, c.len-number.ensures) ∙ sym (length-map y.names.requests.items named_of) in
    let named : map named_of c.push_reserved.new.self.items ≡ (put_names ch (client_of y) q).requests =
    ap (map named_of) c.push_reserved.ensures.items ∙ map-append named_of y.names.requests.items _ ∙ ap (λ (n : ℕ). (client_of y).names.requests ++ (q, On ch (Request history.Put n)) ∷ []) number in
    let x' : model.ClientSide = record (client_of y) { core = c.write_notify.new.self; names = record (client_of y).names { requests = map named_of c.push_reserved.new.self.items } } in
    let fits = put-fits y.core (is_full y.core.requests) c.in_ok-handle.handle a c.in-Ok.ensures.1.0 c.in-Ok.ensures.1.1 c.in-Ok.ensures.1.2 in
    let w = r.way c.in-Ok.ensures.1.0 c.in-Ok.ensures.1.1 in
    let counted : c.count_within-count.result ≡ count_of a = c.count_within-count.ensures (omega (arith, fits.0, w.1)) in
    let typed : c.number.result ≡ base_number (base_of a) = c.number.ensures ∙ ap base_number c.base_type.ensures in
    let wanted : c.with_payload-message.result ≡ put_request command.WriteNotify (record { sid = way.sid; id = wire_of q; data_type = base_number (base_of a); count = count_of a }) (bytes_of a) =
    c.with_payload-message.ensures ∙ ap (λ (z : Wanted). on_channel command.WriteNotify z c.in_ok-payload.payload.items) c.wanted_on-wanted.ensures
    ∙ (λ t. on_channel command.WriteNotify (record { sid = way.sid; id = wire_of q; data_type = typed t; count = counted t }) (c.in_ok-payload.ensures t)) in
    puts-moved i ch a (client_of x) (client_of y) x' (lines_in c.args.logs.now.items) logs logs' (map joined_of c.args.circuits.now.items) ks ks' (Ok tt)
    c.prepare.ensures.side c.prepare.ensures.logs c.prepare.ensures.circuits
    (puts-done i ch a (client_of y) x' logs logs' ks ks' c.in_ok-handle.handle q way y.circuits.items c.in-Ok.ensures.0 tt
    r.named given r.way r.numbered c.in-Ok.ensures.1
    (λ t. record (client_of y) { core = c.write_notify.new.self; names = record (client_of y).names { requests = named t } })
    (c.push_line.ensures ∙ (λ t. grown y.life (Called (On ch (Request history.Put (number t))) (history.ToWrite (c.in_ok-own.ensures t)) ∷ []) logs))
    (subst (λ (z : history.Sent). GoesUp way.circuit z ks ks') (λ t. record { message = wanted t; intent = On ch (Request history.Put (number t)) }) c.push_sent.ensures.goes))

pub returns-in-Err-clause-puts : goal.returns-in-Err-clause-puts
returns-in-Err-clause-puts c =
    let x : ClientSide = c.args.side.now in
    let y : ClientSide = c.prepare.new.side in
    let a : Elements = elements c.args.value.now in
    let r = c.in_ok-handle.ensures.ready in
    puts-moved c.args.client c.args.channel a (client_of x) (client_of y) _ (lines_in c.args.logs.now.items) (lines_in c.prepare.new.logs.items) _ (map joined_of c.args.circuits.now.items) (map joined_of c.prepare.new.circuits.items) _ _
    c.prepare.ensures.side c.prepare.ensures.logs c.prepare.ensures.circuits
    (puts-noted c.args.client c.args.channel a (client_of y) _ (lines_in c.prepare.new.logs.items) _ (map joined_of c.prepare.new.circuits.items) c.in_ok-handle.handle c.in-Err.refusal c.in-Err.ensures.0 c.write_notify.new.self c.note.result
    r.named c.in-Err.ensures.1 refl c.note.ensures)
