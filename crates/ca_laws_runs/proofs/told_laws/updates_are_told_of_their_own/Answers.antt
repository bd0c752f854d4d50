use Rattle.ca_laws_runs.proofs.ToldRuns.{run-updates-own}
use Rattle.ca_laws_runs.proofs.told_laws.updates_are_told_of_their_own.Goals as goal

-- src/told_laws.rt:11:1
pub returns : goal.returns
returns c = run-updates-own
