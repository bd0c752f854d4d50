use Rattle.ca_laws_runs.proofs.Completing.{run-complete}
use Rattle.ca_laws_runs.proofs.complete_laws.calls_complete_once.Goals as goal

pub returns : goal.returns
returns c = run-complete
