use Rattle.ca.specs.Repeating.{Rounds}
use Rattle.ca.proofs.repeater.run.repeat.Given as goal

abbrev pub invariant-loop : goal.invariant-loop
invariant-loop g l = Rounds g.D.Datagrams.went g.D.Datagrams.refuses g.D.Datagrams.came l.counter l.initial.datagrams l.datagrams l.repeater
