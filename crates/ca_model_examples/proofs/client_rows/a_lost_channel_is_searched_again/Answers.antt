use Rattle.ca_model_examples.proofs.ClientWorked.{cut-loses}
use Rattle.ca_model_examples.proofs.client_rows.a_lost_channel_is_searched_again.Goals as goal

pub returns-clause-lost : goal.returns-clause-lost
returns-clause-lost c = cut-loses
