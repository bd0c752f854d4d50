use Rattle.std.proofs.Common.{subst}
use Rattle.ca_ids.specs.Table.{Table}
use Rattle.ca_ids.specs.Holding.{Fills}
use Rattle.ca_ids.proofs.Holding.{fills, sound-at}
use Rattle.ca_ids.proofs.held_table.HeldTable.open_at.Goals as goal

pub invariant_of-self : goal.invariant_of-self
invariant_of-self g c = sound-at c.self.inside.entries c.insert_at.new.self c.args.vacant c.args.value c.insert_at.result c.self.invariant c.insert_at.ensures.inserts

pub returns : goal.returns
returns g c =
    subst (λ (t : Table g.row.T.Denot). Fills t c.args.vacant c.args.value c.insert_at.result c.insert_at.new.self.given) c.self.view_is (fills c.self.inside.entries c.insert_at.new.self c.args.vacant c.args.value c.insert_at.result c.self.invariant c.insert_at.ensures.inserts)
