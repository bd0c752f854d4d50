use Rattle.ca_laws_runs.proofs.LegalServers.{run-gives-sids}
use Rattle.ca_laws_runs.proofs.legal_laws.servers_give_free_sids.Goals as goal

pub returns : goal.returns
returns c = run-gives-sids
