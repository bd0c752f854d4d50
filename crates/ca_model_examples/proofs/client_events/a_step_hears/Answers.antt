use Rattle.ca_model_examples.proofs.ClientEndEvents.{step-hears}
use Rattle.ca_model_examples.proofs.client_events.a_step_hears.Goals as goal

pub returns : goal.returns
returns c = step-hears
