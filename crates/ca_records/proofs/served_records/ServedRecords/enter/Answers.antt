use Rattle.std.proofs.Common.{◌≡◌, ◌∙◌, ℕ, List, [], None, length, ap, rules, slice_set, subst, sym, vec_len}
use Rattle.ca_records.specs.declared.slot.RecordSlot.{RecordSlot}
use Rattle.ca_records.specs.Puts.{Record, record_named}
use Rattle.ca_records.specs.Store.{Enters, Store, present, records_of}
use Rattle.ca_records.proofs.Arrivals.{enter-step, free-within, looked-free, not-full}
use Rattle.ca_records.proofs.Hashed.{place_in-inserted}
use Rattle.ca_records.proofs.Steps.{seen, store_of}
use Rattle.ca_records.proofs.served_records.ServedRecords.enter.Goals as goal

pub index_mut-requires : goal.index_mut-requires
index_mut-requires c =
    let is : vec_len c.self.inside.slots ≡ length c.self.inside.slots.items = search rules in
    rw is (free-within c.self.inside.slots.items c.in-Some.place _ c.self.inside.waiting (rw c.in-Some.is at c.self.invariant))

pub fill-self-inside-requires : goal.fill-self-inside-requires
fill-self-inside-requires c =
    let free = looked-free c.self.inside.slots.items c.in-Some.place _ c.self.inside.waiting c.index_mut.result.now (rw c.in-Some.is at c.self.invariant) c.index_mut.ensures.value in
    not-full c.index_mut.result.now free.0 free.1

pub invariant_of-self-2 : goal.invariant_of-self-2
invariant_of-self-2 c =
    let slots = c.self.inside.slots.items in
    let named = ap (λ (q : Record). q.state.name) c.new.ensures in
    let new : record_named (present (seen slots)) c.new.result.state.name ≡ None =
    subst (λ (s : Store). record_named (records_of s) c.new.result.state.name ≡ None) (sym c.self.view_is) (subst (λ (n : List ℕ). record_named (records_of c.args.self.now) n ≡ None) (sym named) c.requires.new) in
    let calm : c.new.result.waiting ≡ [] = ap (λ (q : Record). q.waiting) c.new.ensures in
    let grown = place_in-inserted (λ k. k.items) c.self.inside.places c.insert.new.self c.args.key c.in-Some.place c.new.result.state.name (c.requires.key ∙ sym named) c.in_ok-insert.ensures.updates in
    let made = enter-step slots _ _ c.self.inside.waiting c.self.inside.rules.items c.self.inside.stamp c.in-Some.place c.index_mut.result.now c.fill-self-inside.result c.new.result (rw c.in-Some.is at c.self.invariant) c.index_mut.ensures.value c.fill-self-inside.ensures.was new calm grown in
    rw c.fill-self-inside.ensures.full made.stored

pub returns-clause-ok : goal.returns-clause-ok
returns-clause-ok c =
    let slots = c.self.inside.slots.items in
    let rules_now = c.self.inside.rules.items in
    let stamp = c.self.inside.stamp in
    let named = ap (λ (q : Record). q.state.name) c.new.ensures in
    let new : record_named (present (seen slots)) c.new.result.state.name ≡ None =
    subst (λ (s : Store). record_named (records_of s) c.new.result.state.name ≡ None) (sym c.self.view_is) (subst (λ (n : List ℕ). record_named (records_of c.args.self.now) n ≡ None) (sym named) c.requires.new) in
    let calm : c.new.result.waiting ≡ [] = ap (λ (q : Record). q.waiting) c.new.ensures in
    let grown = place_in-inserted (λ k. k.items) c.self.inside.places c.insert.new.self c.args.key c.in-Some.place c.new.result.state.name (c.requires.key ∙ sym named) c.in_ok-insert.ensures.updates in
    let made = enter-step slots _ _ c.self.inside.waiting rules_now stamp c.in-Some.place c.index_mut.result.now c.fill-self-inside.result c.new.result (rw c.in-Some.is at c.self.invariant) c.index_mut.ensures.value c.fill-self-inside.ensures.was new calm grown in
    let filled : Enters (store_of slots rules_now stamp) c.in-Some.place c.new.result (store_of (slice_set slots c.in-Some.place c.fill-self-inside.new.self) rules_now stamp) =
    subst (λ (s : RecordSlot). Enters (store_of slots rules_now stamp) c.in-Some.place c.new.result (store_of (slice_set slots c.in-Some.place s) rules_now stamp)) (sym c.fill-self-inside.ensures.full) made.enters in
    rw (← c.self.view_is) (subst (λ (q : Record). Enters (store_of slots rules_now stamp) c.in-Some.place q (store_of (slice_set slots c.in-Some.place c.fill-self-inside.new.self) rules_now stamp)) c.new.ensures filled)
