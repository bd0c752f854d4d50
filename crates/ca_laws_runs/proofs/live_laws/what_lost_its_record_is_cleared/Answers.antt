use Rattle.ca_laws_runs.proofs.LiveRead.{run-cleared}
use Rattle.ca_laws_runs.proofs.live_laws.what_lost_its_record_is_cleared.Goals as goal

pub returns : goal.returns
returns c = run-cleared
