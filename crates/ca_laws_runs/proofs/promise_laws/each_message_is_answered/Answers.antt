use Rattle.ca_laws_runs.proofs.AnsweredWhole.{run-are-answered}
use Rattle.ca_laws_runs.proofs.promise_laws.each_message_is_answered.Goals as goal

pub returns : goal.returns
returns c = run-are-answered
