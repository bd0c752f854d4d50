use Rattle.ca_laws_runs.proofs.NamesEvents.{run-keep}
use Rattle.ca_laws_runs.proofs.name_laws.records_keep_their_names.Goals as goal

pub returns : goal.returns
returns c = run-keep
