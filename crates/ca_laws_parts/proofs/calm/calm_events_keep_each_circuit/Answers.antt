use Rattle.ca_laws_parts.proofs.CalmEvents.{keeps-calm}
use Rattle.ca_laws_parts.proofs.calm.calm_events_keep_each_circuit.Goals as goal

pub returns : goal.returns
returns c = keeps-calm
