use Rattle.ca_laws_runs.proofs.StepWhole.{event-serves, opening-serves, run-serves}
use Rattle.ca_laws_runs.proofs.step_laws.puts_came_on_their_channels.Goals as goal

pub returns : goal.returns
returns c = record { begins = opening-serves; event = event-serves; run = run-serves }
