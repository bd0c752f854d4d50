use Rattle.std.proofs.Common.{rules, refl}
use Rattle.ca_queue.proofs.ring.key_of.Goals as goal

pub returns : goal.returns
returns g c = (c.in-Some-get.entry.now, search rules, refl)
