use Rattle.ca_server_circuit.proofs.Lost.{Told}
use Rattle.ca_server_circuit.proofs.losing.tell_each.Given as goal

abbrev pub invariant-loop-i : goal.invariant-loop-i
invariant-loop-i l = Told l.name l.i l.channels l.fn.link l.link
