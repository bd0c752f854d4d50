use Rattle.ca_client_tables.specs.First.{in_bytes}
use Rattle.ca_client_tables.proofs.Firsts.{end-fits}
use Rattle.ca_client_tables.proofs.circuit.ClientCircuit.payload.Goals as goal

pub overflow_add-end : goal.overflow_add-end
overflow_add-end c = end-fits (in_bytes c.args.self.now.connection) c.args.head.now c.requires
