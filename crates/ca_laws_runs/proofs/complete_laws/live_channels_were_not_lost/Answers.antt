use Rattle.ca_laws_runs.proofs.LostLast.{run-none-lost}
use Rattle.ca_laws_runs.proofs.complete_laws.live_channels_were_not_lost.Goals as goal

pub returns : goal.returns
returns c = run-none-lost
