use Rattle.ca_model_examples.proofs.ClientCallEvents.{unsubscribe-leaves}
use Rattle.ca_model_examples.proofs.client_events.a_call_unsubscribes.Goals as goal

pub returns : goal.returns
returns c = unsubscribe-leaves
