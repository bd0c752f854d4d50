use Rattle.ca_model_examples.proofs.ClientEndEvents.{up-moves}
use Rattle.ca_model_examples.proofs.client_events.bytes_go_up.Goals as goal

pub returns : goal.returns
returns c = up-moves
