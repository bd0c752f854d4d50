use Rattle.ca_model_examples.proofs.ClientHears.{creation-fails}
use Rattle.ca_model_examples.proofs.client_hears.a_creation_fails.Goals as goal

pub returns : goal.returns
returns c = creation-fails
