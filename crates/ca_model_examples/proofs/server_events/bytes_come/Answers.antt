use Rattle.ca_model_examples.proofs.ServerHappens.{up-happens, datagram-happens}
use Rattle.ca_model_examples.proofs.server_events.bytes_come.Goals as goal

pub returns : goal.returns
returns c = record { up = up-happens; datagram = datagram-happens }
