use Rattle.ca_laws_runs.proofs.SeeingRuns.{run-sees}
use Rattle.ca_laws_runs.proofs.told_laws.subscribers_see_their_updates.Goals as goal

pub returns : goal.returns
returns c = run-sees
