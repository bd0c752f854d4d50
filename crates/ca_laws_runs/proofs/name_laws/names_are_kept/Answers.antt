use Rattle.ca_laws_runs.proofs.NamesEvents.{run-kept}
use Rattle.ca_laws_runs.proofs.name_laws.names_are_kept.Goals as goal

pub returns : goal.returns
returns c = run-kept
