use Rattle.std.proofs.Common.{◌≡◌}
use Rattle.ca_bench.proofs.queues.queue_round.Given as goal

abbrev pub invariant-loop-turn : goal.invariant-loop-turn
invariant-loop-turn l = l.queue.0.subscriptions ≡ l.fn.queue.0.subscriptions

abbrev pub invariant-loop : goal.invariant-loop
invariant-loop l = l.queue.0.subscriptions ≡ l.fn.queue.0.subscriptions
