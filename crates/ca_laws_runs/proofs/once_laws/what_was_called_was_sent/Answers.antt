use Rattle.ca_laws_runs.proofs.OnceSentRuns.{sends-called}
use Rattle.ca_laws_runs.proofs.once_laws.what_was_called_was_sent.Goals as goal

pub returns : goal.returns
returns c = sends-called
