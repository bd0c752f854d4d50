use Rattle.std.proofs.Common.{◌<◌, ◌≤◌, length, List, arith, sym, subst}
use Rattle.std.specs.Prelude.{slice_set}
use Rattle.ca_text.specs.Place.{At}
use Rattle.ca_world_data.specs.declared.joined.Joined.{Joined}
use Rattle.ca_world_data.specs.Seen.{joined_of}
use Rattle.ca_world_data.specs.Speaking.{HasRoomUp}
use Rattle.ca_world_data.proofs.Going.{keeps-set}
use Rattle.ca_world_data.proofs.Indexes.{numbers-set}
use Rattle.ca_world_data.proofs.Rooms.{room-up, room-up-none}
use Rattle.ca_world_data.proofs.Worlds.{found}
use Rattle.ca_world_data.proofs.way.reserve_sent.Goals as goal

pub returns-in_err-reserve_up-clause-same : goal.returns-in_err-reserve_up-clause-same
returns-in_err-reserve_up-clause-same c =
    let ks : List Joined = c.args.circuits.now.items in
    let j : Joined = c.index_mut.result.now in
    let within : c.in-Some.number < length ks = omega (arith, c.if-number-len.true, c.len.ensures) in
    let at : At ks c.in-Some.number j = found ks c.in-Some.number j j within c.index_mut.ensures.value in
    numbers-set joined_of ks c.in-Some.number j c.reserve_up.new.joined at c.reserve_up.ensures.same

pub returns-in_err-reserve_up-clause-keeps : goal.returns-in_err-reserve_up-clause-keeps
returns-in_err-reserve_up-clause-keeps c =
    let ks : List Joined = c.args.circuits.now.items in
    let j : Joined = c.index_mut.result.now in
    let within : c.in-Some.number < length ks = omega (arith, c.if-number-len.true, c.len.ensures) in
    let at : At ks c.in-Some.number j = found ks c.in-Some.number j j within c.index_mut.ensures.value in
    keeps-set ks c.in-Some.number j c.reserve_up.new.joined at c.reserve_up.ensures.len c.reserve_up.ensures.capacity

pub returns-in_ok-reserve_up-clause-same : goal.returns-in_ok-reserve_up-clause-same
returns-in_ok-reserve_up-clause-same c =
    let ks : List Joined = c.args.circuits.now.items in
    let j : Joined = c.index_mut.result.now in
    let within : c.in-Some.number < length ks = omega (arith, c.if-number-len.true, c.len.ensures) in
    let at : At ks c.in-Some.number j = found ks c.in-Some.number j j within c.index_mut.ensures.value in
    numbers-set joined_of ks c.in-Some.number j c.reserve_up.new.joined at c.reserve_up.ensures.same

pub returns-in_ok-reserve_up-clause-room : goal.returns-in_ok-reserve_up-clause-room
returns-in_ok-reserve_up-clause-room c =
    let ks : List Joined = c.args.circuits.now.items in
    subst (λ o. HasRoomUp c.args.messages o (slice_set ks c.in-Some.number c.reserve_up.new.joined)) (sym c.in-Some.is)
    (room-up ks c.in-Some.number c.args.messages c.reserve_up.new.joined c.in_ok-reserve_up.ensures.room)

pub returns-in_ok-reserve_up-clause-keeps : goal.returns-in_ok-reserve_up-clause-keeps
returns-in_ok-reserve_up-clause-keeps c =
    let ks : List Joined = c.args.circuits.now.items in
    let j : Joined = c.index_mut.result.now in
    let within : c.in-Some.number < length ks = omega (arith, c.if-number-len.true, c.len.ensures) in
    let at : At ks c.in-Some.number j = found ks c.in-Some.number j j within c.index_mut.ensures.value in
    keeps-set ks c.in-Some.number j c.reserve_up.new.joined at c.reserve_up.ensures.len c.reserve_up.ensures.capacity

pub returns-else-number-len-clause-room : goal.returns-else-number-len-clause-room
returns-else-number-len-clause-room c =
    let ks : List Joined = c.args.circuits.now.items in
    let over : length ks ≤ c.in-Some.number = omega (arith, c.if-number-len.false, c.len.ensures) in
    subst (λ o. HasRoomUp c.args.messages o ks) (sym c.in-Some.is) (room-up-none ks c.in-Some.number c.args.messages over)
