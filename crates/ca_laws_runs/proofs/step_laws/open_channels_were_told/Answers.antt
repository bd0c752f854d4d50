use Rattle.ca_laws_runs.proofs.Creations.{reached-creations}
use Rattle.ca_laws_runs.proofs.step_laws.open_channels_were_told.Goals as goal

pub returns : goal.returns
returns c = reached-creations
