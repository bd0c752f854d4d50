use Rattle.ca_laws_runs.proofs.FollowsWhole.{run-follow, run-record}
use Rattle.ca_laws_runs.proofs.follow_laws.follows_record_in_runs.Goals as goal

pub returns : goal.returns
returns c = record { each = run-follow; clause = run-record }
