use Rattle.ca_laws_runs.proofs.Joint.{run-known}
use Rattle.ca_laws_runs.proofs.held_laws.what_servers_take_is_handled_as_it_was_meant.Goals as goal

pub returns : goal.returns
returns c = run-known
