use Rattle.ca_ids.proofs.Wires.{one_from_wire}
use Rattle.ca_ids.proofs.laws.wire_ids_differ.Goals as goal

pub returns : goal.returns
returns g c ids first second sound live also same = one_from_wire ids first second sound live also same
