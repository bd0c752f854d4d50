use Rattle.ca_model_examples.proofs.ClientEndEvents.{cut-ends}
use Rattle.ca_model_examples.proofs.client_events.a_cut_is_told.Goals as goal

pub returns : goal.returns
returns c = cut-ends
