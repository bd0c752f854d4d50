use Rattle.std.proofs.Common.{◌≡◌}
use Rattle.ca_bench.proofs.board.collect_round.Given as goal

abbrev pub invariant-loop-place : goal.invariant-loop-place
invariant-loop-place g l = l.caller.board ≡ l.board
