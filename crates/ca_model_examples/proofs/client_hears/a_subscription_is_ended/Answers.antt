use Rattle.ca_model_examples.proofs.ClientHears.{unsubscribes}
use Rattle.ca_model_examples.proofs.client_hears.a_subscription_is_ended.Goals as goal

pub returns : goal.returns
returns c = unsubscribes
