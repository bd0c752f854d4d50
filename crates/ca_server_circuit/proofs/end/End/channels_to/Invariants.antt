use Rattle.ca_server_circuit.proofs.Lost.{Listed-to}
use Rattle.ca_server_circuit.proofs.end.End.channels_to.Given as goal

abbrev pub invariant-loop-i : goal.invariant-loop-i
invariant-loop-i l = Listed-to l.name l.i l.fn.self.channels l.all.items
