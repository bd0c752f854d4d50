use Rattle.ca_server_watchers.specs.Watching.{watching}
use Rattle.ca_server_core.proofs.Removed.{Losing}
use Rattle.ca_server_core.proofs.removing.lose_on_all.Given as goal

abbrev pub invariant-loop-place : goal.invariant-loop-place
invariant-loop-place l = Losing l.fn.name (watching l.fn.leading l.fn.name) l.place l.fn.circuits l.fn.records l.circuits l.records
