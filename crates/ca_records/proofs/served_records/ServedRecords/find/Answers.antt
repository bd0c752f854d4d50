use Rattle.ca_records.proofs.Steps.{finds}
use Rattle.ca_records.proofs.served_records.ServedRecords.find.Goals as goal

pub returns : goal.returns
returns c = rw (← c.self.view_is) (finds c.self.inside.slots.items c.self.inside.rules.items c.self.inside.stamp _ c.args.name.now c.copied.result c.self.invariant.index cc)
