use Rattle.ca_laws_runs.proofs.OwnWrites.{run-not-twice}
use Rattle.ca_laws_runs.proofs.write_laws.writes_are_not_made_twice.Goals as goal

pub returns : goal.returns
returns c = run-not-twice
