use Rattle.ca_model_examples.proofs.ClientHears.{is-found}
use Rattle.ca_model_examples.proofs.client_hears.a_channel_is_found.Goals as goal

pub returns : goal.returns
returns c = is-found
