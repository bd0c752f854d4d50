use Rattle.ca_model_examples.proofs.ClientEndEvents.{restart-forgets}
use Rattle.ca_model_examples.proofs.client_events.a_restart_forgets.Goals as goal

pub returns : goal.returns
returns c = restart-forgets
