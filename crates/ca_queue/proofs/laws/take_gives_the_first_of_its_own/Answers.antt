use Rattle.ca_queue.proofs.Subscribers.{first_taken, others_taken, none_taken}
use Rattle.ca_queue.proofs.laws.take_gives_the_first_of_its_own.Goals as goal

pub returns : goal.returns
returns g c = record { own = first_taken; others = others_taken; none = none_taken }
