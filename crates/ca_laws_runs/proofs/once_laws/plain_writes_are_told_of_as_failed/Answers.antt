use Rattle.ca_laws_runs.proofs.OnceNoticedRuns.{writes-tell-failed}
use Rattle.ca_laws_runs.proofs.once_laws.plain_writes_are_told_of_as_failed.Goals as goal

pub returns : goal.returns
returns c = writes-tell-failed
