use Rattle.ca_laws_runs.proofs.ActsRefused.{run-refused}
use Rattle.ca_laws_runs.proofs.refused_laws.channels_of_removed_records_are_bad.Goals as goal

pub returns : goal.returns
returns c = run-refused
