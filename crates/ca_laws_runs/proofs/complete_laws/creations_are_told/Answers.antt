use Rattle.ca_laws_runs.proofs.ToldCreated.{run-creations}
use Rattle.ca_laws_runs.proofs.complete_laws.creations_are_told.Goals as goal

pub returns : goal.returns
returns c = run-creations
