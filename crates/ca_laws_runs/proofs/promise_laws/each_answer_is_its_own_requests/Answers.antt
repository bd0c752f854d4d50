use Rattle.ca_laws_runs.proofs.Promised.{run-answers-own}
use Rattle.ca_laws_runs.proofs.promise_laws.each_answer_is_its_own_requests.Goals as goal

pub returns : goal.returns
returns c = run-answers-own
