use Rattle.ca_bench.specs.Begun.{HasBelow}
use Rattle.ca_bench.proofs.queues.begin_all.Given as goal

abbrev pub invariant-loop-sub : goal.invariant-loop-sub
invariant-loop-sub l = HasBelow l.sub l.queue.0.subscriptions
