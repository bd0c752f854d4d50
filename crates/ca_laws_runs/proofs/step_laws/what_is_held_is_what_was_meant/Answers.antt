use Rattle.ca_laws_runs.proofs.Holds.{held-asked, held-own}
use Rattle.ca_laws_runs.proofs.step_laws.what_is_held_is_what_was_meant.Goals as goal

pub returns : goal.returns
returns c = record { asked = held-asked; own = held-own }
