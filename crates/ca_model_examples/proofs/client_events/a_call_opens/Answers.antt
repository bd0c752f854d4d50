use Rattle.ca_model_examples.proofs.ClientCallEvents.{open-leaves}
use Rattle.ca_model_examples.proofs.client_events.a_call_opens.Goals as goal

pub returns : goal.returns
returns c = open-leaves
