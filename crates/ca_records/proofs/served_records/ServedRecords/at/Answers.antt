use Rattle.ca_records.proofs.Steps.{found-at, looked, seen-full}
use Rattle.ca_records.proofs.served_records.ServedRecords.at.Goals as goal

pub returns-clause-found : goal.returns-clause-found
returns-clause-found c =
    let slots = c.self.inside.slots.items in
    let there = rw (← c.self.view_is) at c.requires in
    let full = looked slots c.args.place there.0 c.index.result.now c.record.result.now there.1 c.index.ensures c.record.ensures in
    rw (← c.self.view_is) (found-at _ _ c.args.place c.record.result.now c.self.invariant.index (seen-full slots c.args.place c.record.result.now full))
