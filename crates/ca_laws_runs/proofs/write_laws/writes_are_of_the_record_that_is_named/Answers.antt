use Rattle.ca_laws_runs.proofs.WritesTitled.{run-titled}
use Rattle.ca_laws_runs.proofs.write_laws.writes_are_of_the_record_that_is_named.Goals as goal

pub returns : goal.returns
returns c = run-titled
