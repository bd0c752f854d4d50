use Rattle.ca_model_examples.proofs.ClientCallEvents.{clear-leaves}
use Rattle.ca_model_examples.proofs.client_events.a_call_clears.Goals as goal

pub returns : goal.returns
returns c = clear-leaves
