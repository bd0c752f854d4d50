use Rattle.ca_laws_runs.proofs.LegalCancels.{run-cancels}
use Rattle.ca_laws_runs.proofs.legal_laws.clients_cancel_what_was_added.Goals as goal

pub returns : goal.returns
returns c = run-cancels
