use Rattle.ca_model_examples.proofs.Limits.{accept-is-last, all-bytes, datagram-moment, same-moment}
use Rattle.ca_model_examples.proofs.call_limits.events_have_their_limits.Goals as goal

pub returns : goal.returns
returns c = record { moment = same-moment; bytes = all-bytes; last = accept-is-last; datagram = datagram-moment }
