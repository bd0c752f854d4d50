use Rattle.ca_tests.specs.Drawn.{HasBelow}
use Rattle.ca_tests.proofs.drawn.answers.Given as goal

abbrev pub invariant-loop-number : goal.invariant-loop-number
invariant-loop-number g l = HasBelow 5 (g.Q.Queues.contents l.queue).subscriptions
