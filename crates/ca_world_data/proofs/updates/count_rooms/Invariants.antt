use Rattle.std.proofs.Common.{◌≡◌, ◌+◌, ◌<◌, ◌^◌, drop, map}
use Rattle.std.specs.VecDeque.{deque_items}
use Rattle.ca_world_data.specs.Updates.{how_many}
use Rattle.ca_world_data.proofs.updates.count_rooms.Given as goal

-- with what there is for the queues that are left it is all
abbrev pub invariant-loop-own : goal.invariant-loop-own
invariant-loop-own l = record { updates : l.updates + 1 < 2 ^ 64 → l.updates + how_many (map deque_items (drop l.own-index l.rooms)) ≡ how_many (map deque_items l.rooms) }
