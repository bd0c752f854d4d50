use Rattle.std.proofs.Common.{◌≡◌, take}
use Rattle.ca_ids.specs.Table.{with_all_held}
use Rattle.ca_client_tables.specs.Finding.{circuit_in}
use Rattle.ca_client_tables.proofs.finding.circuit_to.Given as goal

abbrev pub invariant-loop-place : goal.invariant-loop-place
invariant-loop-place l = l.found ≡ circuit_in l.address l.priority (with_all_held (take l.place l.opening) l.circuits)
