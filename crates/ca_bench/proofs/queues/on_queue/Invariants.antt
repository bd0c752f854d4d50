use Rattle.ca_bench.specs.Begun.{HasBelow}
use Rattle.ca_bench.proofs.queues.on_queue.Given as goal

abbrev pub invariant-loop : goal.invariant-loop
invariant-loop l = HasBelow l.count l.queue.0.subscriptions
