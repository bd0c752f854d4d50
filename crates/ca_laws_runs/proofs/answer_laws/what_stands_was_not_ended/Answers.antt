use Rattle.ca_laws_runs.proofs.KnewStands.{run-unended}
use Rattle.ca_laws_runs.proofs.answer_laws.what_stands_was_not_ended.Goals as goal

pub returns : goal.returns
returns c = run-unended
