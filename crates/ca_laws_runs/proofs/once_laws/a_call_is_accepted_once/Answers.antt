use Rattle.ca_laws_runs.proofs.OnceRuns.{called-once}
use Rattle.ca_laws_runs.proofs.once_laws.a_call_is_accepted_once.Goals as goal

pub returns : goal.returns
returns c = called-once
