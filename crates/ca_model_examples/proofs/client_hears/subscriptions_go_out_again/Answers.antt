use Rattle.ca_model_examples.proofs.ClientHears.{subscribed-again}
use Rattle.ca_model_examples.proofs.client_hears.subscriptions_go_out_again.Goals as goal

pub returns : goal.returns
returns c = subscribed-again
