use Rattle.ca_tests.specs.Drawn.{HasBelow}
use Rattle.ca_tests.proofs.drawn.begin_all.Given as goal

abbrev pub invariant-loop-sub : goal.invariant-loop-sub
invariant-loop-sub g l = HasBelow l.sub (g.Q.Queues.contents l.queue).subscriptions
