use Rattle.std.proofs.Common.{◌≡◌, drop, option_map}
use Rattle.std.specs.Prelude.{find}
use Rattle.ca_ids.specs.Table.{held_from}
use Rattle.ca_client_tables.specs.Finding.{as_found, circuit_in, goes_there}
use Rattle.ca_client_tables.proofs.finding.circuit_in_table.Given as goal

abbrev pub invariant-loop-index : goal.invariant-loop-index
invariant-loop-index l =
    circuit_in l.address l.priority l.circuits ≡ option_map as_found (find (goes_there l.address l.priority) (held_from l.index (drop l.index l.circuits)))
