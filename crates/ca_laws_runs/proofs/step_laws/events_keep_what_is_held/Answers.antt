use Rattle.ca_laws_runs.proofs.StepWhole.{reached-others}
use Rattle.ca_laws_runs.proofs.step_laws.events_keep_what_is_held.Goals as goal

pub returns : goal.returns
returns c = reached-others
