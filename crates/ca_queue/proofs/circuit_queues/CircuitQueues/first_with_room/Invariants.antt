use Rattle.std.proofs.Common.{ℕ, ◌<◌, ◌≤◌, length}
use Rattle.ca_text.specs.Limits.{queue_subscriptions}
use Rattle.ca_text.specs.Place.{At}
use Rattle.ca_queue.specs.Queue.{Queue}
use Rattle.ca_queue.proofs.circuit_queues.CircuitQueues.first_with_room.Given as goal

abbrev pub invariant-loop-place : goal.invariant-loop-place
invariant-loop-place g l = (i : ℕ) (q : Queue _) → i < l.place → At l.self i q → queue_subscriptions ≤ length q.subscriptions
