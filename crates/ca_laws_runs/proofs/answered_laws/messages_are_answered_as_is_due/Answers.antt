use Rattle.ca_laws_runs.proofs.DueRuns.{run-due}
use Rattle.ca_laws_runs.proofs.answered_laws.messages_are_answered_as_is_due.Goals as goal

pub returns : goal.returns
returns c = run-due
