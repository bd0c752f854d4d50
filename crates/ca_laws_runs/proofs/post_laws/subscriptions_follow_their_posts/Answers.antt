use Rattle.ca_laws_runs.proofs.Acted.{event-follows, opening-follows, run-follows}
use Rattle.ca_laws_runs.proofs.post_laws.subscriptions_follow_their_posts.Goals as goal

pub returns : goal.returns
returns c = record { begins = opening-follows; event = event-follows; run = run-follows }
