use Rattle.ca_records.proofs.Overs.{put-step}
use Rattle.ca_records.proofs.Steps.{looked}
use Rattle.ca_records.proofs.served_records.ServedRecords.put_one.Goals as goal

pub invariant_of-self : goal.invariant_of-self
invariant_of-self c =
    let slots = c.self.inside.slots.items in
    let there = rw (← c.self.view_is) at c.requires in
    let full = looked slots c.args.place there.0 c.index_mut.result.now c.record_mut.result.now there.1 c.index_mut.ensures.value c.record_mut.ensures.value in
    let made = put-step slots c.self.inside.free _ c.self.inside.waiting c.self.inside.rules.items c.self.inside.stamp c.args.place c.record_mut.result.now c.put_one.new.self c.args.put c.args.number c.args.bytes.now c.put_one.result c.self.invariant full c.put_one.ensures in
    made.stored

pub returns-clause-put : goal.returns-clause-put
returns-clause-put c =
    let slots = c.self.inside.slots.items in
    let there = rw (← c.self.view_is) at c.requires in
    let full = looked slots c.args.place there.0 c.index_mut.result.now c.record_mut.result.now there.1 c.index_mut.ensures.value c.record_mut.ensures.value in
    let made = put-step slots c.self.inside.free _ c.self.inside.waiting c.self.inside.rules.items c.self.inside.stamp c.args.place c.record_mut.result.now c.put_one.new.self c.args.put c.args.number c.args.bytes.now c.put_one.result c.self.invariant full c.put_one.ensures in
    rw (← c.self.view_is) made.made

pub returns-clause-cannot : goal.returns-clause-cannot
returns-clause-cannot c =
    let slots = c.self.inside.slots.items in
    let there = rw (← c.self.view_is) at c.requires in
    let full = looked slots c.args.place there.0 c.index_mut.result.now c.record_mut.result.now there.1 c.index_mut.ensures.value c.record_mut.ensures.value in
    let made = put-step slots c.self.inside.free _ c.self.inside.waiting c.self.inside.rules.items c.self.inside.stamp c.args.place c.record_mut.result.now c.put_one.new.self c.args.put c.args.number c.args.bytes.now c.put_one.result c.self.invariant full c.put_one.ensures in
    rw (← c.self.view_is) made.cannot
