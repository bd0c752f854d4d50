use Rattle.ca_laws_runs.proofs.WritesCarried.{run-carried}
use Rattle.ca_laws_runs.proofs.write_laws.writes_carry_what_callers_gave.Goals as goal

pub returns : goal.returns
returns c = run-carried
