use Rattle.ca_laws_runs.proofs.LegalServers.{run-confirms}
use Rattle.ca_laws_runs.proofs.legal_laws.servers_confirm_at_once.Goals as goal

pub returns : goal.returns
returns c = run-confirms
