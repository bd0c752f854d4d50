use Rattle.ca_laws_runs.proofs.LostLive.{run-lost-were-live}
use Rattle.ca_laws_runs.proofs.complete_laws.lost_channels_were_live.Goals as goal

pub returns : goal.returns
returns c = run-lost-were-live
