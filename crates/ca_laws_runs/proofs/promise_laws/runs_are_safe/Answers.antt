use Rattle.ca_laws_runs.proofs.Promised.{promised}
use Rattle.ca_laws_runs.proofs.promise_laws.runs_are_safe.Goals as goal

pub returns : goal.returns
returns c = promised
