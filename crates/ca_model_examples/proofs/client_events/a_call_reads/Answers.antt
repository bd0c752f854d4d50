use Rattle.ca_model_examples.proofs.ClientCallEvents.{read-leaves}
use Rattle.ca_model_examples.proofs.client_events.a_call_reads.Goals as goal

pub returns : goal.returns
returns c = read-leaves
