use Rattle.std.proofs.Common.{◌≡◌}
use Rattle.ca_bench.proofs.board.collect_all.Given as goal

abbrev pub invariant-loop-generation : goal.invariant-loop-generation
invariant-loop-generation g l = l.caller.board ≡ l.board
