use Rattle.std.proofs.Common.{◌≡◌, ◌≤◌}
use Rattle.ca_bench.proofs.rounds.recycle_all.Given as goal

abbrev pub invariant-loop-cell : goal.invariant-loop-cell
invariant-loop-cell l = (l.core.board ≡ l.board) × (l.freed ≤ l.cell)
