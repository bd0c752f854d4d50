use Rattle.ca_model_examples.proofs.ClientEndEvents.{notice-lines}
use Rattle.ca_model_examples.proofs.client_events.notices_are_lines.Goals as goal

pub returns : goal.returns
returns c = notice-lines
