use Rattle.ca_laws_runs.proofs.FollowsWhole.{run-stand}
use Rattle.ca_laws_runs.proofs.follow_laws.what_was_sent_shows_its_posts.Goals as goal

pub returns : goal.returns
returns c s es stopped w ok runs = (run-stand s es stopped w ok runs).sent
