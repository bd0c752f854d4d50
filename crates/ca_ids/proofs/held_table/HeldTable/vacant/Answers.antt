use Rattle.ca_ids.proofs.Holding.{vacant-next}
use Rattle.ca_ids.proofs.held_table.HeldTable.vacant.Goals as goal

pub returns : goal.returns
returns g c =
    rw (← c.self.view_is) (vacant-next c.self.inside.entries c.vacant.result c.self.invariant c.vacant.ensures)
