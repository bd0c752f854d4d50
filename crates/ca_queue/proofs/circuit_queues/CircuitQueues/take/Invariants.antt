use Rattle.std.proofs.Common.{◌≡◌, ℕ, ◌<◌, map, None}
use Rattle.ca_text.specs.Place.{At}
use Rattle.ca_queue.specs.Circuit.{AreIdleBehind}
use Rattle.ca_queue.specs.Queue.{Queue}
use Rattle.ca_queue.specs.Waiting.{taken}
use Rattle.ca_queue.proofs.circuit_queues.CircuitQueues.take.Given as goal

abbrev pub invariant-loop-place : goal.invariant-loop-place
invariant-loop-place g l =
    (map g.Q.Queues.contents l.self-inside.queues.items ≡ l.fn.self)
    × ((i : ℕ) (q : Queue _) → i < l.place → At l.fn.self i q → taken q.events_on q.waiting ≡ None)
    × AreIdleBehind l.self-inside.last l.fn.self
