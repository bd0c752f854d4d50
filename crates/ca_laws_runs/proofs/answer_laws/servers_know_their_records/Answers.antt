use Rattle.ca_laws_runs.proofs.KnewRecords.{run-records}
use Rattle.ca_laws_runs.proofs.answer_laws.servers_know_their_records.Goals as goal

pub returns : goal.returns
returns c = run-records
