use Rattle.std.proofs.Common.{◌≡◌, ◌<◌, ◌^◌, map, ap, arith}
use Rattle.std.specs.Prelude.{vec_capacity}
use Rattle.std.specs.VecDeque.{deque_items}
use Rattle.ca_world_data.specs.Updates.{how_many}
use Rattle.ca_world_data.proofs.updates.reserve_updates.Goals as goal

-- no update leaves: none needs memory
pub returns-then-not-may_pump-clause-ready : goal.returns-then-not-may_pump-clause-ready
returns-then-not-may_pump-clause-ready c = λ e has.
    let none : how_many (map deque_items c.new.result.items) ≡ 0 = ap (λ l. how_many (map deque_items l)) c.new.ensures.items in
    record { own = λ some. absurd (some (c.may_pump.ensures.rests c.if-not-may_pump.true e has)); down = omega (arith, none, c.args.joined.now.lists.down.ok.0) }

pub returns-clause-ready : goal.returns-clause-ready
returns-clause-ready c = λ e has.
    let many : how_many (map deque_items c.deref.result.now) ≡ how_many (map deque_items c.in_ok-rooms.rooms.items) = ap (λ l. how_many (map deque_items l)) c.deref.ensures.value in
    let small : vec_capacity c.reserve_list.new.list < 2 ^ 63 = c.reserve_list.new.list.small in
    let room = c.in_ok-reserve_list.ensures.room in
    let all = c.count_rooms.ensures (omega (arith, small, room)) in
    record { own = c.in_ok-rooms.ensures e has; down = omega (arith, many, all, room) }
