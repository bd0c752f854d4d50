use Rattle.ca_laws_runs.proofs.LegalApart.{run-apart}
use Rattle.ca_laws_runs.proofs.legal_laws.subscriptions_are_added_apart.Goals as goal

pub returns : goal.returns
returns c = run-apart
