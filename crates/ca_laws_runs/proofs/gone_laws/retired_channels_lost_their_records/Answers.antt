use Rattle.ca_laws_runs.proofs.GoneRetired.{run-gone}
use Rattle.ca_laws_runs.proofs.gone_laws.retired_channels_lost_their_records.Goals as goal

pub returns : goal.returns
returns c = run-gone
