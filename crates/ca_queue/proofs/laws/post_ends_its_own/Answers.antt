use Rattle.ca_queue.proofs.Subscribers.{last_posted, others_posted}
use Rattle.ca_queue.proofs.laws.post_ends_its_own.Goals as goal

pub returns : goal.returns
returns g c = record { own = last_posted; others = others_posted }
