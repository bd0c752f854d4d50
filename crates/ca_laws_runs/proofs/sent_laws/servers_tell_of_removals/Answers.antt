use Rattle.ca_laws_runs.proofs.LegalTold.{run-told}
use Rattle.ca_laws_runs.proofs.sent_laws.servers_tell_of_removals.Goals as goal

pub returns : goal.returns
returns c = run-told
