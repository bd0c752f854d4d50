use Rattle.ca_laws_runs.proofs.Joint.{run-asked, run-takes}
use Rattle.ca_laws_runs.proofs.held_laws.messages_mean_their_own.Goals as goal

pub returns : goal.returns
returns c = record { asked = run-asked; own = run-takes }
