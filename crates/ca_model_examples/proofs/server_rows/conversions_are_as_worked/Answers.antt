use Rattle.ca_model_examples.proofs.ServerRows.{converts}
use Rattle.ca_model_examples.proofs.server_rows.conversions_are_as_worked.Goals as goal

pub returns : goal.returns
returns c = converts
