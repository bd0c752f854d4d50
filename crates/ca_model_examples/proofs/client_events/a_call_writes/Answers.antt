use Rattle.ca_model_examples.proofs.ClientCallEvents.{write-leaves}
use Rattle.ca_model_examples.proofs.client_events.a_call_writes.Goals as goal

pub returns : goal.returns
returns c = write-leaves
