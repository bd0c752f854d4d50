use Rattle.ca_laws_parts.proofs.CircuitTold.{finish-speaks, removal-speaks, reply-speaks, update-speaks}
use Rattle.ca_laws_parts.proofs.circuit.what_is_told_speaks_of_its_own.Goals as goal

pub returns : goal.returns
returns c = record { reply = reply-speaks; finish = finish-speaks; removal = removal-speaks; update = update-speaks }
