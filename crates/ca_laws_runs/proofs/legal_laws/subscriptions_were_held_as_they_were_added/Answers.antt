use Rattle.ca_laws_runs.proofs.HeldAdds.{run-adds-held}
use Rattle.ca_laws_runs.proofs.legal_laws.subscriptions_were_held_as_they_were_added.Goals as goal

pub returns : goal.returns
returns c = run-adds-held
