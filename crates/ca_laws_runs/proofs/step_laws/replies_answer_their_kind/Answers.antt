use Rattle.ca_laws_runs.proofs.Replied.{reached-answer}
use Rattle.ca_laws_runs.proofs.step_laws.replies_answer_their_kind.Goals as goal

pub returns : goal.returns
returns c = reached-answer
