use Rattle.ca_model_examples.proofs.ClientHears.{cleared-while-waiting}
use Rattle.ca_model_examples.proofs.client_hears.a_waiting_channel_is_cleared.Goals as goal

pub returns : goal.returns
returns c = cleared-while-waiting
