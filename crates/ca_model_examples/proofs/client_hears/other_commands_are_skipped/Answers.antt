use Rattle.ca_model_examples.proofs.ClientHears.{skipped}
use Rattle.ca_model_examples.proofs.client_hears.other_commands_are_skipped.Goals as goal

pub returns : goal.returns
returns c = skipped
