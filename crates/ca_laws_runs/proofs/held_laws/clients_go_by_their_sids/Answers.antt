use Rattle.ca_laws_runs.proofs.Joint.{run-says, run-sided}
use Rattle.ca_laws_runs.proofs.held_laws.clients_go_by_their_sids.Goals as goal

pub returns : goal.returns
returns c = record { says = run-says; sides = run-sided }
