use Rattle.ca_laws_parts.proofs.InStepLasts.{world-numbered}
use Rattle.ca_laws_parts.proofs.SaysRuns.{event-in-step, opening-in-step, run-in-step}
use Rattle.ca_laws_parts.proofs.writes_in_runs.ends_and_circuits_stay_in_step.Goals as goal

pub returns : goal.returns
returns c = record { begins = opening-in-step; event = event-in-step; run = run-in-step; numbered = world-numbered }
