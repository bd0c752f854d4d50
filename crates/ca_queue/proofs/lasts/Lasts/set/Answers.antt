use Rattle.ca_queue.proofs.Rounds.{indexed-set}
use Rattle.ca_queue.proofs.lasts.Lasts.set.Goals as goal

pub invariant_of-self : goal.invariant_of-self
invariant_of-self c = indexed-set c.args.key c.args.number c.args.put c.self.inside.lasts.items c.self.inside.index.keys _ _ _ c.self.invariant (rw (← c.self.view_is) at c.requires)
