use Rattle.ca_laws_runs.proofs.Holds.{after-run, opening-held, run-held}
use Rattle.ca_laws_runs.proofs.step_laws.what_is_held_in_runs.Goals as goal

pub returns : goal.returns
returns c = record { begins = opening-held; event = after-run; run = run-held }
