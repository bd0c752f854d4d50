use Rattle.ca_model_examples.proofs.ClientCallEvents.{put-leaves}
use Rattle.ca_model_examples.proofs.client_events.a_call_puts.Goals as goal

pub returns : goal.returns
returns c = put-leaves
