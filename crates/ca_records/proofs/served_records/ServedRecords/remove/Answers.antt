use Rattle.std.proofs.Common.{◌≡◌, ◌+◌, ◌-◌, ℕ, List, None, false, length, arith, rules, vec_len}
use Rattle.std.specs.Str.{bytes_eq}
use Rattle.ca_text.proofs.Places.{At-within}
use Rattle.ca_records.specs.declared.slot.RecordSlot.TheVariants.{Full}
use Rattle.ca_records.specs.Index.{place_in}
use Rattle.ca_records.proofs.Arrivals.{leave-step}
use Rattle.ca_records.proofs.Hashed.{place_in-others}
use Rattle.ca_records.proofs.CallSteps.{waiting-part}
use Rattle.ca_records.proofs.Steps.{looked}
use Rattle.ca_records.proofs.served_records.ServedRecords.remove.Goals as goal

pub overflow_sub-self : goal.overflow_sub-self
overflow_sub-self c =
    let slots = c.self.inside.slots.items in
    let found = rw (← c.self.view_is) at c.in-Some.ensures in
    let full = looked slots c.in-Some.place found.r c.index.result.now c.record.result.now found.at c.index.ensures c.record.ensures in
    rw c.waits.ensures (waiting-part slots c.self.inside.free _ c.self.inside.waiting c.in-Some.place c.record.result.now c.self.invariant full)

pub index_mut-requires : goal.index_mut-requires
index_mut-requires c =
    let slots = c.self.inside.slots.items in
    let found = rw (← c.self.view_is) at c.in-Some.ensures in
    let full = looked slots c.in-Some.place found.r c.index.result.now c.record.result.now found.at c.index.ensures c.record.ensures in
    let is : vec_len c.self.inside.slots ≡ length c.self.inside.slots.items = search rules in
    rw is (At-within slots c.in-Some.place (Full c.record.result.now) full)

pub invariant_of-self : goal.invariant_of-self
invariant_of-self c =
    let slots = c.self.inside.slots.items in
    let found = rw (← c.self.view_is) at c.in-Some.ensures in
    let full = looked slots c.in-Some.place found.r c.index.result.now c.record.result.now found.at c.index.ensures c.record.ensures in
    let part = waiting-part slots c.self.inside.free _ c.self.inside.waiting c.in-Some.place c.record.result.now c.self.invariant full in
    let less : (c.self.inside.waiting - c.waits.result) + length c.record.result.now.waiting ≡ c.self.inside.waiting = omega (arith, part, c.waits.ensures) in
    let gone : place_in (λ k. k.items) c.remove.new.self.entries c.args.name.now ≡ None = c.remove.ensures.updates.1 in
    let others : (other : List ℕ) → bytes_eq other c.args.name.now ≡ false → place_in (λ k. k.items) c.remove.new.self.entries other ≡ place_in (λ k. k.items) c.self.inside.places.entries other =
    place_in-others (λ k. k.items) c.self.inside.places c.remove.new.self c.args.name.now _ c.remove.ensures.updates in
    let made = leave-step slots c.self.inside.free _ _ c.self.inside.waiting _ c.self.inside.rules.items c.self.inside.stamp c.args.name.now c.in-Some.place c.record.result.now c.self.invariant full found gone others less in
    made.stored

pub returns : goal.returns
returns c =
    let slots = c.self.inside.slots.items in
    let found = rw (← c.self.view_is) at c.in-Some.ensures in
    let full = looked slots c.in-Some.place found.r c.index.result.now c.record.result.now found.at c.index.ensures c.record.ensures in
    let part = waiting-part slots c.self.inside.free _ c.self.inside.waiting c.in-Some.place c.record.result.now c.self.invariant full in
    let less : (c.self.inside.waiting - c.waits.result) + length c.record.result.now.waiting ≡ c.self.inside.waiting = omega (arith, part, c.waits.ensures) in
    let gone : place_in (λ k. k.items) c.remove.new.self.entries c.args.name.now ≡ None = c.remove.ensures.updates.1 in
    let others : (other : List ℕ) → bytes_eq other c.args.name.now ≡ false → place_in (λ k. k.items) c.remove.new.self.entries other ≡ place_in (λ k. k.items) c.self.inside.places.entries other =
    place_in-others (λ k. k.items) c.self.inside.places c.remove.new.self c.args.name.now _ c.remove.ensures.updates in
    let made = leave-step slots c.self.inside.free _ _ c.self.inside.waiting _ c.self.inside.rules.items c.self.inside.stamp c.args.name.now c.in-Some.place c.record.result.now c.self.invariant full found gone others less in
    rw (← c.self.view_is) made.leaves
