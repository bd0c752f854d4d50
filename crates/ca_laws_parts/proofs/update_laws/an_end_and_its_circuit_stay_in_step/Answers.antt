use Rattle.ca_laws_parts.proofs.Acts.{end-acts, end-without}
use Rattle.ca_laws_parts.proofs.update_laws.an_end_and_its_circuit_stay_in_step.Goals as goal

pub returns : goal.returns
returns c = record { acts = end-acts; without = end-without }
