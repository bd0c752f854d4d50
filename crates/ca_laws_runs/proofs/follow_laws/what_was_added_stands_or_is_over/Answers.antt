use Rattle.ca_laws_runs.proofs.FollowsWhole.{run-known}
use Rattle.ca_laws_runs.proofs.follow_laws.what_was_added_stands_or_is_over.Goals as goal

pub returns : goal.returns
returns c = run-known
