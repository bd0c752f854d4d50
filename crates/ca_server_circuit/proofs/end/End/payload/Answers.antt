use Rattle.ca_server_circuit.proofs.InPlace.{end-fits}
use Rattle.ca_server_circuit.proofs.end.End.payload.Goals as goal

pub overflow_add-end : goal.overflow_add-end
overflow_add-end c = end-fits c.args.self.now.link.input.bytes c.args.head.now c.requires
