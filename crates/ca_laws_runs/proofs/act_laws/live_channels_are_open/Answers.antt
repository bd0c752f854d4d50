use Rattle.ca_laws_runs.proofs.ActsLive.{run-live}
use Rattle.ca_laws_runs.proofs.act_laws.live_channels_are_open.Goals as goal

pub returns : goal.returns
returns c = run-live
