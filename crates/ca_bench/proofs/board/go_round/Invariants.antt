use Rattle.std.proofs.Common.{◌≡◌}
use Rattle.ca_bench.proofs.board.go_round.Given as goal

abbrev pub invariant-loop-round : goal.invariant-loop-round
invariant-loop-round l = (l.core.board ≡ l.board) × (l.caller.board ≡ l.board)
