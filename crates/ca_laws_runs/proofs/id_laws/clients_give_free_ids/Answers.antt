use Rattle.ca_laws_runs.proofs.LegalIds.{run-ids}
use Rattle.ca_laws_runs.proofs.id_laws.clients_give_free_ids.Goals as goal

pub returns : goal.returns
returns c = run-ids
