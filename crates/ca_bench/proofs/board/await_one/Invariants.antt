use Rattle.std.proofs.Common.{◌≡◌}
use Rattle.ca_bench.proofs.board.await_one.Given as goal

abbrev pub invariant-loop : goal.invariant-loop
invariant-loop g l = l.caller.board ≡ l.board
