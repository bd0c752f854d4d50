use Rattle.ca_model_examples.proofs.ServerAnswers.{adds-not-so}
use Rattle.ca_model_examples.proofs.server_calls.records_are_added_if_they_fit.Goals as goal

pub returns : goal.returns
returns c = adds-not-so
