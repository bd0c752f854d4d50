use Rattle.ca_model_examples.proofs.ClientHears.{last-faults}
use Rattle.ca_model_examples.proofs.client_hears.the_last_faults.Goals as goal

pub returns : goal.returns
returns c = last-faults
