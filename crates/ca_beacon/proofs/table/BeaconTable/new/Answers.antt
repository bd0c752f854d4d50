use Rattle.ca_beacon.proofs.Tables.{empty-table}
use Rattle.ca_beacon.proofs.table.BeaconTable.new.Goals as goal

pub invariant_of-result : goal.invariant_of-result
invariant_of-result c = empty-table c.new.result.entries c.new.ensures.empty
