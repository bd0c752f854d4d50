use Rattle.ca_laws_runs.proofs.AnsweringRuns.{run-answered}
use Rattle.ca_laws_runs.proofs.answered_laws.messages_are_answered.Goals as goal

pub returns : goal.returns
returns c = run-answered
