use Rattle.ca_model_examples.proofs.ClientEndEvents.{datagram-finds}
use Rattle.ca_model_examples.proofs.client_events.a_datagram_comes.Goals as goal

pub returns : goal.returns
returns c = datagram-finds
