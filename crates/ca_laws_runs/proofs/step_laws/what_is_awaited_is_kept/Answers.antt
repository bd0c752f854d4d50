use Rattle.ca_laws_runs.proofs.StepWhole.{reached-awaited}
use Rattle.ca_laws_runs.proofs.step_laws.what_is_awaited_is_kept.Goals as goal

pub returns : goal.returns
returns c = reached-awaited
