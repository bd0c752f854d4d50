use Rattle.ca_laws_runs.proofs.Joint.{run-held}
use Rattle.ca_laws_runs.proofs.held_laws.all_circuits_are_held.Goals as goal

pub returns : goal.returns
returns c = run-held
