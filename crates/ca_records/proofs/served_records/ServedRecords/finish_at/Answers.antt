use Rattle.std.proofs.Common.{◌≡◌, ◌+◌, ◌-◌, arith}
use Rattle.ca_records.specs.Judging.{fewer_waiting}
use Rattle.ca_records.proofs.CallSteps.{fewer-waiting, finds-own, finish-refused, finish-step}
use Rattle.ca_records.proofs.Steps.{looked}
use Rattle.ca_records.proofs.served_records.ServedRecords.finish_at.Goals as goal

pub overflow_sub-self : goal.overflow_sub-self
overflow_sub-self c =
    let slots = c.self.inside.slots.items in
    let there = rw (← c.self.view_is) at c.requires in
    let full = looked slots c.args.place there.0 c.index_mut.result.now c.record_mut.result.now there.1 c.index_mut.ensures.value c.record_mut.ensures.value in
    rw c.fewer_waiting.ensures (fewer-waiting slots c.self.inside.free _ c.self.inside.waiting c.args.place c.self.inside.stamp c.record_mut.result.now c.in-Some.ended c.in-Some.applied c.finish.new.self c.self.invariant full c.in-Some.ensures)

pub invariant_of-self-in-Some : goal.invariant_of-self-in-Some
invariant_of-self-in-Some c =
    let slots = c.self.inside.slots.items in
    let there = rw (← c.self.view_is) at c.requires in
    let full = looked slots c.args.place there.0 c.index_mut.result.now c.record_mut.result.now there.1 c.index_mut.ensures.value c.record_mut.ensures.value in
    let some = fewer-waiting slots c.self.inside.free _ c.self.inside.waiting c.args.place c.self.inside.stamp c.record_mut.result.now c.in-Some.ended c.in-Some.applied c.finish.new.self c.self.invariant full c.in-Some.ensures in
    let less : (c.self.inside.waiting - c.fewer_waiting.result) + fewer_waiting c.in-Some.applied ≡ c.self.inside.waiting = omega (arith, some, c.fewer_waiting.ensures) in
    let made = finish-step slots c.self.inside.free _ c.self.inside.waiting _ c.self.inside.rules.items c.self.inside.stamp c.record_mut.result.now.state.name c.args.place c.record_mut.result.now c.finish.new.self c.in-Some.ended c.in-Some.applied c.self.invariant full (finds-own slots c.self.inside.free _ c.self.inside.waiting c.self.inside.rules.items c.self.inside.stamp c.args.place c.record_mut.result.now c.self.invariant full) c.in-Some.ensures less in
    made.stored

pub returns-in-None : goal.returns-in-None
returns-in-None c =
    let slots = c.self.inside.slots.items in
    let there = rw (← c.self.view_is) at c.requires in
    let full = looked slots c.args.place there.0 c.index_mut.result.now c.record_mut.result.now there.1 c.index_mut.ensures.value c.record_mut.ensures.value in
    let found = finds-own slots c.self.inside.free _ c.self.inside.waiting c.self.inside.rules.items c.self.inside.stamp c.args.place c.record_mut.result.now c.self.invariant full in
    let name = c.record_mut.result.now.state.name in
    rw (← c.self.view_is) (name, found, finish-refused slots c.self.inside.free _ c.self.inside.waiting c.self.inside.rules.items c.self.inside.stamp name c.args.place c.record_mut.result.now c.finish.new.self c.self.invariant full found c.in-None.ensures)

pub returns-in-Some : goal.returns-in-Some
returns-in-Some c =
    let slots = c.self.inside.slots.items in
    let there = rw (← c.self.view_is) at c.requires in
    let full = looked slots c.args.place there.0 c.index_mut.result.now c.record_mut.result.now there.1 c.index_mut.ensures.value c.record_mut.ensures.value in
    let found = finds-own slots c.self.inside.free _ c.self.inside.waiting c.self.inside.rules.items c.self.inside.stamp c.args.place c.record_mut.result.now c.self.invariant full in
    let name = c.record_mut.result.now.state.name in
    let some = fewer-waiting slots c.self.inside.free _ c.self.inside.waiting c.args.place c.self.inside.stamp c.record_mut.result.now c.in-Some.ended c.in-Some.applied c.finish.new.self c.self.invariant full c.in-Some.ensures in
    let less : (c.self.inside.waiting - c.fewer_waiting.result) + fewer_waiting c.in-Some.applied ≡ c.self.inside.waiting = omega (arith, some, c.fewer_waiting.ensures) in
    let made = finish-step slots c.self.inside.free _ c.self.inside.waiting _ c.self.inside.rules.items c.self.inside.stamp name c.args.place c.record_mut.result.now c.finish.new.self c.in-Some.ended c.in-Some.applied c.self.invariant full found c.in-Some.ensures less in
    rw (← c.self.view_is) (name, found, made.finishes)
