use Rattle.ca_ids.proofs.Holding.{sound-freed}
use Rattle.ca_ids.proofs.held_table.HeldTable.free.Goals as goal

pub invariant_of-self : goal.invariant_of-self
invariant_of-self g c = sound-freed c.self.inside.entries c.remove.new.self c.args.handle c.remove.result c.self.invariant c.remove.ensures
