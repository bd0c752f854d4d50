use Rattle.ca_queue.proofs.Runs.{follows_from_start}
use Rattle.ca_queue.proofs.laws.newest_is_kept.Goals as goal

pub returns : goal.returns
returns g c = follows_from_start
