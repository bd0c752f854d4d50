use Rattle.ca_arena.proofs.Places.{IsSound-written}
use Rattle.ca_ids.proofs.held_table.HeldTable.value_mut.Goals as goal

pub invariant_of-self-lent : goal.invariant_of-self-lent
invariant_of-self-lent g c = λ w. IsSound-written c.self.inside.entries c.args.handle w (rw (← c.self.view_is) at c.requires) c.self.invariant
