use Rattle.ca_laws_parts.proofs.Known.{keeps-known-step}
use Rattle.ca_laws_parts.proofs.circuits.a_clients_step_keeps_each_circuit.Goals as goal

pub returns : goal.returns
returns c = keeps-known-step
