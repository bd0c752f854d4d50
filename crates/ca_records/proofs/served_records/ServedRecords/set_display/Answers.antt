use Rattle.std.specs.Arc.{arc_value}
use Rattle.ca_dbr.specs.Data.{data_of}
use Rattle.ca_records.proofs.CallSteps.{display-step}
use Rattle.ca_records.proofs.Steps.{looked}
use Rattle.ca_records.proofs.served_records.ServedRecords.set_display.Goals as goal

pub invariant_of-self : goal.invariant_of-self
invariant_of-self c =
    let slots = c.self.inside.slots.items in
    let found = rw (← c.self.view_is) at c.in-Some.ensures in
    let full = looked slots c.in-Some.place found.r c.index_mut.result.now c.record_mut.result.now found.at c.index_mut.ensures.value c.record_mut.ensures.value in
    (display-step slots c.self.inside.free _ c.self.inside.waiting c.self.inside.rules.items c.self.inside.stamp c.args.name.now c.in-Some.place c.record_mut.result.now c.set_display.new.self (data_of (arc_value c.args.display)) c.self.invariant full found c.set_display.ensures).stored

pub returns : goal.returns
returns c =
    let slots = c.self.inside.slots.items in
    let found = rw (← c.self.view_is) at c.in-Some.ensures in
    let full = looked slots c.in-Some.place found.r c.index_mut.result.now c.record_mut.result.now found.at c.index_mut.ensures.value c.record_mut.ensures.value in
    let made = display-step slots c.self.inside.free _ c.self.inside.waiting c.self.inside.rules.items c.self.inside.stamp c.args.name.now c.in-Some.place c.record_mut.result.now c.set_display.new.self (data_of (arc_value c.args.display)) c.self.invariant full found c.set_display.ensures in
    rw (← c.self.view_is) made.sets
