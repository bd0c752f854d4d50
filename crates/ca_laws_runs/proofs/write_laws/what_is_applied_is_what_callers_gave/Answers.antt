use Rattle.ca_laws_runs.proofs.OwnWrites.{run-own}
use Rattle.ca_laws_runs.proofs.write_laws.what_is_applied_is_what_callers_gave.Goals as goal

pub returns : goal.returns
returns c = run-own
