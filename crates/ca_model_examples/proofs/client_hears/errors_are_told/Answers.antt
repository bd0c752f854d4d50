use Rattle.ca_model_examples.proofs.ClientHears.{errors}
use Rattle.ca_model_examples.proofs.client_hears.errors_are_told.Goals as goal

pub returns : goal.returns
returns c = errors
