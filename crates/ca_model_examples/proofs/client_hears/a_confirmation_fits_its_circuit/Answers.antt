use Rattle.ca_model_examples.proofs.ClientHears.{confirmed-there}
use Rattle.ca_model_examples.proofs.client_hears.a_confirmation_fits_its_circuit.Goals as goal

pub returns : goal.returns
returns c = confirmed-there
