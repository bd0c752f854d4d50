use Rattle.ca_client_tables.specs.First.{in_bytes}
use Rattle.ca_client_tables.proofs.Firsts.{end-fits}
use Rattle.ca_client_tables.proofs.circuit.ClientCircuit.drop_first.Goals as goal

pub overflow_add-head : goal.overflow_add-head
overflow_add-head c = end-fits (in_bytes c.args.self.now.connection) c.args.head.now c.requires
