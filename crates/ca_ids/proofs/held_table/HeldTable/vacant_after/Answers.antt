use Rattle.ca_ids.proofs.Holding.{told-after}
use Rattle.ca_ids.proofs.held_table.HeldTable.vacant_after.Goals as goal

pub returns : goal.returns
returns g c = rw (← c.self.view_is) (told-after c.self.inside.entries c.args.ahead.now c.vacant_after.result c.self.invariant c.vacant_after.ensures)
