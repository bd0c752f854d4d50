use Rattle.ca_laws_runs.proofs.ActsOn.{run-creations}
use Rattle.ca_laws_runs.proofs.act_laws.channels_are_created_for_their_records.Goals as goal

pub returns : goal.returns
returns c = run-creations
