use Rattle.ca_model_examples.proofs.ClientEndEvents.{down-moves}
use Rattle.ca_model_examples.proofs.client_events.bytes_come_down.Goals as goal

pub returns : goal.returns
returns c = down-moves
