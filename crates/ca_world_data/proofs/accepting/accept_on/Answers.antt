use Rattle.std.proofs.Common.{◌≡◌, ℕ, ◌<◌, List, ap, arith, length, refl, subst, sym, ◌∙◌}
use Rattle.std.specs.Prelude.{slice_set}
use Rattle.ca_arena.specs.declared.handle.Handle.{Handle}
use Rattle.ca_text.specs.Place.{At}
use Rattle.ca_world_data.specs.declared.client.ClientSide.{ClientSide}
use Rattle.ca_world_data.specs.declared.server.ServerSide.{ServerSide}
use Rattle.ca_world_data.specs.Accepting.{GainsNumber}
use Rattle.ca_world_data.proofs.Acceptances.{accepted-so}
use Rattle.ca_world_data.proofs.accepting.accept_on.Goals as goal

pub returns-in-Ok : goal.returns-in-Ok
returns-in-Ok c =
    let mid : ClientSide = c.make_room.new.side in
    let there : ServerSide = c.make_room.new.there in
    let after : ClientSide = c.connect_side.new.side in
    let h : Handle = c.in-Ok.at_server in
    let count : c.len-number.result ≡ length c.make_room.new.circuits.items = omega (arith, c.len-number.ensures) in
    let index : c.from.result ≡ c.args.circuit.index = omega (arith, c.from.ensures) in
    let place : c.from-in-Ok.result ≡ h.index = omega (arith, c.from-in-Ok.ensures) in
    let kept : after.circuits.items ≡ mid.circuits.items = c.connect_side.ensures.kept in
    let long = ap (λ (z : List ℕ). length z) kept in
    let room = c.in_ok-make_room.ensures.room in
    let within : c.args.circuit.index < length after.circuits.items = omega (arith, room.client, long) in
    let slot = c.in-Ok.ensures.call.0.slot in
    let inside : h.index < length there.circuits.items = omega (arith, room.server, slot) in
    let at_client : GainsNumber mid.circuits.items c.args.circuit.index (length c.make_room.new.circuits.items) c.set_number.new.numbers.items =
    record {
      mid = after.circuits.items;
      extends = λ l n at. subst (λ (z : List ℕ). At z l n) (sym kept) at;
      within = within;
      is = c.set_number.ensures ∙ (λ t. slice_set after.circuits.items (index t) (count t));
    } in
    let at_server : GainsNumber there.circuits.items h.index (length c.make_room.new.circuits.items) c.set_number-in-Ok.new.numbers.items =
    record {
      mid = there.circuits.items;
      extends = λ l n at. at;
      within = inside;
      is = c.set_number-in-Ok.ensures ∙ (λ t. slice_set there.circuits.items (place t) (count t));
    } in
    accepted-so c.args.client c.args.server c.args.circuit c.args.side.now mid c.args.there.now there c.args.circuits.now.items c.make_room.new.circuits.items c.args.logs.now.items c.make_room.new.logs.items
    c.in_ok-make_room.ensures.stays
    h c.begin_circuit-joined.result c.connect_side.new.joined after _ _ c.push_reserved.new.self.items c.connect_side.new.logs.items tt
    c.in-Ok.ensures.call
    c.begin_circuit-joined.ensures
    c.connect_side.ensures.connects
    refl
    refl
    c.push_reserved.ensures.items
    at_client
    at_server
