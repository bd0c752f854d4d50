use Rattle.ca_laws_runs.proofs.CauseOnce.{run-removed-once}
use Rattle.ca_laws_runs.proofs.cause_laws.channels_are_removed_once.Goals as goal

pub returns : goal.returns
returns c = run-removed-once
