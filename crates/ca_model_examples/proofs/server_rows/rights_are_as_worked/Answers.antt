use Rattle.ca_model_examples.proofs.ServerRows.{rules-decide, rights-are-bits}
use Rattle.ca_model_examples.proofs.server_rows.rights_are_as_worked.Goals as goal

pub returns : goal.returns
returns c = record { rules_decide = rules-decide; bits = rights-are-bits }
