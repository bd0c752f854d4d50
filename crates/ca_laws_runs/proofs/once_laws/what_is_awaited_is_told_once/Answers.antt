use Rattle.ca_laws_runs.proofs.OnceNoticedRuns.{tells-once}
use Rattle.ca_laws_runs.proofs.once_laws.what_is_awaited_is_told_once.Goals as goal

pub returns : goal.returns
returns c = tells-once
