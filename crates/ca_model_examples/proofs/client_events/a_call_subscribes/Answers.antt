use Rattle.ca_model_examples.proofs.ClientCallEvents.{subscribe-leaves}
use Rattle.ca_model_examples.proofs.client_events.a_call_subscribes.Goals as goal

pub returns : goal.returns
returns c = subscribe-leaves
