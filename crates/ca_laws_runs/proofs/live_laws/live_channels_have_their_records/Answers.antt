use Rattle.ca_laws_runs.proofs.ActsWhole.{run-live-there}
use Rattle.ca_laws_runs.proofs.live_laws.live_channels_have_their_records.Goals as goal

pub returns : goal.returns
returns c = run-live-there
