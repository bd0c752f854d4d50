use Rattle.ca_laws_runs.proofs.FollowsWhole.{run-stand}
use Rattle.ca_laws_runs.proofs.follow_laws.listed_records_are_there.Goals as goal

pub returns : goal.returns
returns c s es stopped w ok runs = (run-stand s es stopped w ok runs).listed
