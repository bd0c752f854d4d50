use Rattle.ca_laws_runs.proofs.KnewFull.{run-know-full}
use Rattle.ca_laws_runs.proofs.full_laws.servers_know_when_they_are_full.Goals as goal

pub returns : goal.returns
returns c = run-know-full
