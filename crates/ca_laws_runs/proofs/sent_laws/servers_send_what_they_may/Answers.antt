use Rattle.ca_laws_runs.proofs.LegalUpdates.{run-legal}
use Rattle.ca_laws_runs.proofs.sent_laws.servers_send_what_they_may.Goals as goal

pub returns : goal.returns
returns c = run-legal
