use Rattle.std.proofs.Common.{subst}
use Rattle.ca_ids.specs.Table.{Table}
use Rattle.ca_ids.specs.Holding.{FillsAll}
use Rattle.ca_ids.proofs.Holding.{fills-all, sound-all}
use Rattle.ca_ids.proofs.held_table.HeldTable.open_all.Goals as goal

pub invariant_of-self : goal.invariant_of-self
invariant_of-self g c = sound-all c.self.inside.entries c.insert_all.new.self c.args.values c.insert_all.result c.self.invariant c.insert_all.ensures

pub returns : goal.returns
returns g c =
    subst (λ (t : Table g.row.T.Denot). FillsAll t c.args.values c.insert_all.result c.insert_all.new.self.given) c.self.view_is (fills-all c.self.inside.entries c.insert_all.new.self c.args.values c.insert_all.result c.self.invariant c.insert_all.ensures)
