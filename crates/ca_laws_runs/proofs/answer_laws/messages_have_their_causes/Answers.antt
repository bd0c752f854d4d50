use Rattle.ca_laws_runs.proofs.CausingRuns.{run-causes}
use Rattle.ca_laws_runs.proofs.answer_laws.messages_have_their_causes.Goals as goal

pub returns : goal.returns
returns c = run-causes
