use Rattle.ca_laws_runs.proofs.CauseKeeps.{run-come-after}
use Rattle.ca_laws_runs.proofs.cause_laws.messages_come_after_what_they_are_about.Goals as goal

pub returns : goal.returns
returns c = run-come-after
