use Rattle.ca_laws_runs.proofs.Awaiting.{run-awaiting}
use Rattle.ca_laws_runs.proofs.await_laws.puts_wait_for_records.Goals as goal

pub returns : goal.returns
returns c = run-awaiting
