use Rattle.ca_model_examples.proofs.ServerRows.{version-spelled, echo-spelled, search-spelled, not-found-spelled, creation-spelled}
use Rattle.ca_model_examples.proofs.server_rows.spelled_greetings_are_as_worked.Goals as goal

pub returns : goal.returns
returns c = record { version = version-spelled; echo = echo-spelled; search = search-spelled; not_found = not-found-spelled; creation = creation-spelled }
