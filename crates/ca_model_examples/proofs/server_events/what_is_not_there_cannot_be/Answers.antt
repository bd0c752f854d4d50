use Rattle.ca_model_examples.proofs.ServerHappens.{cannot-be}
use Rattle.ca_model_examples.proofs.server_events.what_is_not_there_cannot_be.Goals as goal

pub returns : goal.returns
returns c = cannot-be
