use Rattle.ca_laws_runs.proofs.Joint.{run-reads, run-tells}
use Rattle.ca_laws_runs.proofs.held_laws.what_clients_take_is_told_of_its_own.Goals as goal

pub returns : goal.returns
returns c = record { about = run-reads; tells = run-tells }
