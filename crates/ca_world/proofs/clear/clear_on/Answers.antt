use Rattle.std.proofs.Common.{◌≡◌, ◌≤◌, ◌+◌, ℕ, List, Ok, length, arith, refl, ap, subst, ◌∙◌}
use Rattle.std.specs.Prelude.{map}
use Rattle.std.proofs.lemmas.List.{length-map}
use Rattle.ca_arena.specs.declared.handle.Handle.{Handle}
use Rattle.ca_ids.specs.Wire.{wire_of}
use Rattle.ca_wire.specs.Messages.{clear_request}
use Rattle.ca_model.specs.History.{Line}
use Rattle.ca_model.specs.History as history
use Rattle.ca_model.specs.World.{Joined}
use Rattle.ca_model.specs.World as model
use Rattle.ca_world_data.specs.declared.client.ClientSide.{ClientSide}
use Rattle.ca_world_data.specs.declared.way.ChannelRoute.{ChannelRoute}
use Rattle.ca_world_data.specs.Logs.{lines_in}
use Rattle.ca_world_data.specs.Seen.{client_of, joined_of, named_of}
use Rattle.ca_world_data.specs.Speaking.{GoesUp}
use Rattle.ca_world_data.proofs.Silences.{room-fewer}
use Rattle.ca_world.proofs.Clearings.{clears-done, clears-moved, clears-noted}
use Rattle.ca_world.proofs.clear.clear_on.Goals as goal

pub tell_call-requires : goal.tell_call-requires
tell_call-requires c =
    let x : ClientSide = c.args.side.now in
    let r = c.in_ok-handle.ensures.ready in
    let few = c.requires.few c.in_ok-handle.handle in
    let is = ap length c.in-Ok.ensures.1.2 in
    let named = length-map x.names.requests.items named_of in
    let le : length c.in-Ok.notices + 1 ≤ length x.names.requests.items + 1 = omega (arith, few, is, named) in
    room-fewer (length x.names.requests.items + 1) (length c.in-Ok.notices + 1) x.life c.prepare_clear.new.logs.items le r.lines

pub returns-in-Ok-clause-clears : goal.returns-in-Ok-clause-clears
returns-in-Ok-clause-clears c =
    let i : ℕ = c.args.client in
    let ch : ℕ = c.args.channel in
    let x : ClientSide = c.args.side.now in
    let h : Handle = c.in_ok-handle.handle in
    let way : ChannelRoute = c.in_ok-handle.way in
    let r = c.in_ok-handle.ensures.ready in
    let logs : List (List Line) = lines_in c.prepare_clear.new.logs.items in
    let logs' : List (List Line) = lines_in c.tell_call.new.logs.items in
    let ks : List Joined = map joined_of c.prepare_clear.new.circuits.items in
    let ks' : List Joined = map joined_of c.push_sent.new.circuits.items in
    let x' : model.ClientSide = record (client_of x) { core = c.clear.new.self } in
    let said : c.clear_request-message.result ≡ clear_request way.sid (wire_of h) = c.clear_request-message.ensures ∙ (λ t. clear_request (c.new.ensures t) ((c.new-cid.ensures ∙ c.number.ensures ∙ c.of.ensures) t)) in
    clears-moved i ch (client_of x) x' (lines_in c.args.logs.now.items) logs logs' (map joined_of c.args.circuits.now.items) ks ks' (Ok tt)
    c.prepare_clear.ensures.logs c.prepare_clear.ensures.circuits
    (clears-done i ch (client_of x) x' logs logs' ks ks' h way x.circuits.items c.in-Ok.notices c.in-Ok.ensures.0 tt
    r.named c.requires.once r.way r.numbered c.in-Ok.ensures.1
    refl
    c.tell_call.ensures
    (subst (λ (z : history.Sent). GoesUp way.circuit z ks ks') (λ t. record { message = said t; intent = history.On ch history.Clear }) c.push_sent.ensures.goes))

pub returns-in-Err-clause-clears : goal.returns-in-Err-clause-clears
returns-in-Err-clause-clears c =
    let x : ClientSide = c.args.side.now in
    let r = c.in_ok-handle.ensures.ready in
    clears-moved c.args.client c.args.channel (client_of x) _ (lines_in c.args.logs.now.items) (lines_in c.prepare_clear.new.logs.items) _ (map joined_of c.args.circuits.now.items) (map joined_of c.prepare_clear.new.circuits.items) _ _
    c.prepare_clear.ensures.logs c.prepare_clear.ensures.circuits
    (clears-noted c.args.client c.args.channel (client_of x) _ (lines_in c.prepare_clear.new.logs.items) _ (map joined_of c.prepare_clear.new.circuits.items) c.in_ok-handle.handle c.in-Err.refusal c.in-Err.ensures.0 c.clear.new.self c.note.result
    r.named c.in-Err.ensures.1 refl c.note.ensures)
