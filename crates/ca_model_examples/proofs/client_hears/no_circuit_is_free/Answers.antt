use Rattle.ca_model_examples.proofs.ClientHears.{none-free}
use Rattle.ca_model_examples.proofs.client_hears.no_circuit_is_free.Goals as goal

pub returns : goal.returns
returns c = none-free
