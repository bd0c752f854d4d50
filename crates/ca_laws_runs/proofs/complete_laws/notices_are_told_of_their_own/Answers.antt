use Rattle.ca_laws_runs.proofs.LostRuns.{run-notices}
use Rattle.ca_laws_runs.proofs.complete_laws.notices_are_told_of_their_own.Goals as goal

pub returns : goal.returns
returns c = run-notices
