use Rattle.ca_model_examples.proofs.ClientCallEvents.{gives-up}
use Rattle.ca_model_examples.proofs.client_events.a_request_is_given_up.Goals as goal

pub returns : goal.returns
returns c = gives-up
