use Rattle.std.proofs.Common.{◌≤◌}
use Rattle.ca_bench.proofs.racing.give_up_during_fill.Given as goal

abbrev pub invariant-loop-round : goal.invariant-loop-round
invariant-loop-round g l = l.agreed ≤ l.round
