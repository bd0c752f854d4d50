use Rattle.ca_laws_runs.proofs.Created.{reached-created}
use Rattle.ca_laws_runs.proofs.sid_laws.created_channels_are_open_or_cleared.Goals as goal

pub returns : goal.returns
returns c = reached-created
