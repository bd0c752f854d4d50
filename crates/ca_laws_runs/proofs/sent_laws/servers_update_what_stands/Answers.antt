use Rattle.ca_laws_runs.proofs.LegalUpdates.{run-updates}
use Rattle.ca_laws_runs.proofs.sent_laws.servers_update_what_stands.Goals as goal

pub returns : goal.returns
returns c = run-updates
