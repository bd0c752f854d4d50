use Rattle.std.proofs.Common.{◌≡◌}
use Rattle.ca_bench.proofs.board.feed.Given as goal

abbrev pub invariant-loop : goal.invariant-loop
invariant-loop g l = l.core.board ≡ l.board
