use Rattle.ca_model_examples.proofs.ClientCallEvents.{collects}
use Rattle.ca_model_examples.proofs.client_events.an_outcome_is_collected.Goals as goal

pub returns : goal.returns
returns c = collects
