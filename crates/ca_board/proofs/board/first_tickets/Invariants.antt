use Rattle.std.proofs.Common.{◌≤◌}
use Rattle.std.specs.Vec.{vec_capacity}
use Rattle.ca_text.specs.Limits.{board_cells}
use Rattle.ca_board.proofs.Stock.{AreFirst}
use Rattle.ca_board.proofs.board.first_tickets.Given as goal

abbrev pub invariant-loop-cell : goal.invariant-loop-cell
invariant-loop-cell l = AreFirst l.cell l.free.items × (board_cells ≤ vec_capacity l.free)
