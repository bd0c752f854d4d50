use Rattle.std.proofs.Common.{◌≡◌, ◌≤◌}
use Rattle.ca_bench.proofs.tickets.each_generation.Given as goal

abbrev pub invariant-loop-generation : goal.invariant-loop-generation
invariant-loop-generation l = (l.core.board ≡ l.board-inside.cells.shared.table_id) × ((l.caller.board ≡ l.board-inside.cells.shared.table_id) × (l.given ≤ l.generation))
