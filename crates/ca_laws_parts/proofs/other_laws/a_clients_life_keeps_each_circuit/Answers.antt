use Rattle.ca_laws_parts.proofs.Accepts.{keeps-accept}
use Rattle.ca_laws_parts.proofs.NewCircuits.{keeps-accepted}
use Rattle.ca_laws_parts.proofs.Restarts.{keeps-client-restart, keeps-datagram}
use Rattle.ca_laws_parts.proofs.RunsTicks.{keeps-ticks}
use Rattle.ca_laws_parts.proofs.other_laws.a_clients_life_keeps_each_circuit.Goals as goal

pub returns : goal.returns
returns c = record { restart = keeps-client-restart; datagram = keeps-datagram; accept = keeps-accept; made = keeps-accepted; ticks = keeps-ticks }
