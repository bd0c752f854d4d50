use Rattle.std.proofs.Common.{◌<◌, length, List, arith, subst, sym}
use Rattle.ca_text.specs.Place.{At}
use Rattle.ca_world_data.specs.declared.joined.Joined.{Joined}
use Rattle.std.specs.Prelude.{map, slice_set}
use Rattle.ca_model.specs.History.{Sent}
use Rattle.ca_world_data.specs.Seen.{intent_of, joined_of}
use Rattle.ca_world_data.specs.Sends.{LeavesRoom}
use Rattle.ca_world_data.specs.Speaking.{GoesUp}
use Rattle.ca_world_data.proofs.Going.{leaves-set}
use Rattle.ca_world_data.proofs.Rooms.{goes-up}
use Rattle.ca_world_data.proofs.Worlds.{found}
use Rattle.ca_world_data.proofs.way.push_sent.Goals as goal

pub returns-then-number-len-clause-goes : goal.returns-then-number-len-clause-goes
returns-then-number-len-clause-goes c =
    let ks : List Joined = c.args.circuits.now.items in
    let j : Joined = c.index_mut.result.now in
    let k = c.in-Some.number in
    let within : k < length ks = omega (arith, c.if-number-len.true, c.len.ensures) in
    let at : At ks k j = found ks k j j within c.index_mut.ensures.value in
    let said : Sent = record { message = c.args.message; intent = intent_of c.args.intent } in
    subst (λ o. GoesUp o said (map joined_of ks) (map joined_of (slice_set ks k c.push_up.new.joined))) (sym c.in-Some.is)
    (goes-up ks k j c.push_up.new.joined said at c.push_up.ensures.up)

pub returns-then-number-len-clause-leaves : goal.returns-then-number-len-clause-leaves
returns-then-number-len-clause-leaves c =
    let ks : List Joined = c.args.circuits.now.items in
    let j : Joined = c.index_mut.result.now in
    let k = c.in-Some.number in
    let within : k < length ks = omega (arith, c.if-number-len.true, c.len.ensures) in
    let at : At ks k j = found ks k j j within c.index_mut.ensures.value in
    subst (λ o. LeavesRoom o ks (slice_set ks k c.push_up.new.joined)) (sym c.in-Some.is)
    (leaves-set ks k j c.push_up.new.joined at c.push_up.ensures.len c.push_up.ensures.capacity)
