use Rattle.ca_laws_runs.proofs.ActsRefused.{run-retired}
use Rattle.ca_laws_runs.proofs.refused_laws.bad_channels_lost_their_records.Goals as goal

pub returns : goal.returns
returns c = run-retired
