use Rattle.ca_laws_runs.proofs.Promised.{run-legal-world}
use Rattle.ca_laws_runs.proofs.promise_laws.what_is_sent_is_legal.Goals as goal

pub returns : goal.returns
returns c = run-legal-world
