use Rattle.ca_server_circuit.specs.Ending.{Walks}
use Rattle.ca_server_circuit.proofs.end.End.withdraw_all.Given as goal

abbrev pub invariant-loop-index : goal.invariant-loop-index
invariant-loop-index l = Walks 0 l.index l.circuit l.fn.self.channels l.initial.records l.records
