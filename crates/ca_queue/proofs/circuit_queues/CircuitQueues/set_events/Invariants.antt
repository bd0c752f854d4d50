use Rattle.std.proofs.Common.{◌≡◌, ◌++◌, map, take, drop}
use Rattle.ca_queue.specs.Circuit.{AreIdleBehind}
use Rattle.ca_queue.specs.Queue.{switched}
use Rattle.ca_queue.proofs.circuit_queues.CircuitQueues.set_events.Given as goal

abbrev pub invariant-loop-place : goal.invariant-loop-place
invariant-loop-place g l =
    (map g.Q.Queues.contents l.self-inside.queues.items ≡ map (switched l.on) (take l.place l.fn.self) ++ drop l.place l.fn.self)
    × AreIdleBehind l.self-inside.last l.fn.self
