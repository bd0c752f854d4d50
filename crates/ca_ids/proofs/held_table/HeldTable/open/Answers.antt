use Rattle.std.proofs.Common.{subst}
use Rattle.ca_ids.specs.Table.{Table}
use Rattle.ca_ids.specs.Holding.{Gives}
use Rattle.ca_ids.proofs.Holding.{gives}
use Rattle.ca_ids.proofs.held_table.HeldTable.open.Goals as goal

pub returns : goal.returns
returns g c =
    subst (λ (t : Table g.row.T.Denot). Gives t c.args.value c.insert.result c.insert.new.self.given) c.self.view_is (gives c.self.inside.entries c.insert.new.self c.args.value c.insert.result c.self.invariant c.insert.ensures.inserts)
