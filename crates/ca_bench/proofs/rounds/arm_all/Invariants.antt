use Rattle.std.proofs.Common.{◌≡◌}
use Rattle.ca_board.specs.Outstanding.{AreDue}
use Rattle.ca_bench.proofs.rounds.arm_all.Given as goal

abbrev pub invariant-loop-number : goal.invariant-loop-number
invariant-loop-number l = (l.core.board ≡ l.board) × AreDue l.core l.tickets.items
