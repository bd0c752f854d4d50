use Rattle.ca_model_examples.proofs.ClientEndEvents.{accept-makes}
use Rattle.ca_model_examples.proofs.client_events.a_circuit_is_accepted.Goals as goal

pub returns : goal.returns
returns c = accept-makes
