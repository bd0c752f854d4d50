use Rattle.ca_model_examples.proofs.ClientHears.{pause-is-sent}
use Rattle.ca_model_examples.proofs.client_hears.a_pause_is_asked_for.Goals as goal

pub returns : goal.returns
returns c = pause-is-sent
