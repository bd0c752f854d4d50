use Rattle.std.proofs.Common.{◌+◌, ap}
use Rattle.ca_dbr.specs.Elements.{elements}
use Rattle.ca_records.proofs.CallSteps.{begin-step}
use Rattle.ca_records.proofs.Steps.{looked}
use Rattle.ca_records.proofs.served_records.ServedRecords.begin_write.Goals as goal

pub invariant_of-self : goal.invariant_of-self
invariant_of-self c =
    let slots = c.self.inside.slots.items in
    let there = rw (← c.self.view_is) at c.requires in
    let full = looked slots c.args.place there.0 c.index_mut.result.now c.record_mut.result.now there.1 c.index_mut.ensures.value c.record_mut.ensures.value in
    let made = begin-step slots c.self.inside.free _ c.self.inside.waiting _ c.self.inside.rules.items c.self.inside.stamp c.args.place c.record_mut.result.now c.begin-begun.new.self c.args.put (elements c.args.value) c.begin-begun.result c.self.invariant full c.begin-begun.ensures.begins (ap (λ n. c.self.inside.waiting + n) c.more_waiting.ensures.more) in
    made.stored

pub returns : goal.returns
returns c =
    let slots = c.self.inside.slots.items in
    let there = rw (← c.self.view_is) at c.requires in
    let full = looked slots c.args.place there.0 c.index_mut.result.now c.record_mut.result.now there.1 c.index_mut.ensures.value c.record_mut.ensures.value in
    let made = begin-step slots c.self.inside.free _ c.self.inside.waiting _ c.self.inside.rules.items c.self.inside.stamp c.args.place c.record_mut.result.now c.begin-begun.new.self c.args.put (elements c.args.value) c.begin-begun.result c.self.invariant full c.begin-begun.ensures.begins (ap (λ n. c.self.inside.waiting + n) c.more_waiting.ensures.more) in
    rw (← c.self.view_is) made.begins
