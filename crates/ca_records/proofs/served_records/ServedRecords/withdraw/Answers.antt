use Rattle.std.proofs.Common.{◌≡◌, ◌+◌, ◌-◌, arith}
use Rattle.ca_records.proofs.CallSteps.{waiting-part, withdraw-step}
use Rattle.ca_records.proofs.Steps.{looked}
use Rattle.ca_records.proofs.served_records.ServedRecords.withdraw.Goals as goal

pub overflow_sub-self : goal.overflow_sub-self
overflow_sub-self c =
    let slots = c.self.inside.slots.items in
    let there = rw (← c.self.view_is) at c.requires in
    let full = looked slots c.args.place there.0 c.index_mut.result.now c.record_mut.result.now there.1 c.index_mut.ensures.value c.record_mut.ensures.value in
    let part = waiting-part slots c.self.inside.free _ c.self.inside.waiting c.args.place c.record_mut.result.now c.self.invariant full in
    omega (arith, part, c.withdraw-gone.ensures.count)

pub invariant_of-self : goal.invariant_of-self
invariant_of-self c =
    let slots = c.self.inside.slots.items in
    let there = rw (← c.self.view_is) at c.requires in
    let full = looked slots c.args.place there.0 c.index_mut.result.now c.record_mut.result.now there.1 c.index_mut.ensures.value c.record_mut.ensures.value in
    let part = waiting-part slots c.self.inside.free _ c.self.inside.waiting c.args.place c.record_mut.result.now c.self.invariant full in
    let less : (c.self.inside.waiting - c.withdraw-gone.result) + c.withdraw-gone.result ≡ c.self.inside.waiting = omega (arith, part, c.withdraw-gone.ensures.count) in
    let made = withdraw-step slots c.self.inside.free _ c.self.inside.waiting _ c.withdraw-gone.result c.self.inside.rules.items c.self.inside.stamp c.args.place c.record_mut.result.now c.withdraw-gone.new.self c.args.circuit c.args.channel c.self.invariant full c.withdraw-gone.ensures.without c.withdraw-gone.ensures.count less in
    made.stored

pub returns : goal.returns
returns c =
    let slots = c.self.inside.slots.items in
    let there = rw (← c.self.view_is) at c.requires in
    let full = looked slots c.args.place there.0 c.index_mut.result.now c.record_mut.result.now there.1 c.index_mut.ensures.value c.record_mut.ensures.value in
    let part = waiting-part slots c.self.inside.free _ c.self.inside.waiting c.args.place c.record_mut.result.now c.self.invariant full in
    let less : (c.self.inside.waiting - c.withdraw-gone.result) + c.withdraw-gone.result ≡ c.self.inside.waiting = omega (arith, part, c.withdraw-gone.ensures.count) in
    let made = withdraw-step slots c.self.inside.free _ c.self.inside.waiting _ c.withdraw-gone.result c.self.inside.rules.items c.self.inside.stamp c.args.place c.record_mut.result.now c.withdraw-gone.new.self c.args.circuit c.args.channel c.self.invariant full c.withdraw-gone.ensures.without c.withdraw-gone.ensures.count less in
    rw (← c.self.view_is) made.withdraws
