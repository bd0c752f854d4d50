use Rattle.std.proofs.Common.{◌≡◌, ◌∙◌, ◌++◌, ◌∷◌, ℕ, List, [], None, length, ap, rules, subst, sym}
use Rattle.ca_records.specs.declared.slot.RecordSlot.{RecordSlot}
use Rattle.ca_records.specs.declared.slot.RecordSlot.TheVariants.{Full}
use Rattle.ca_records.specs.Puts.{Record, record_named}
use Rattle.ca_records.specs.Store.{Enters, Store, present, records_of}
use Rattle.ca_records.proofs.Arrivals.{append-step}
use Rattle.ca_records.proofs.Hashed.{place_in-inserted}
use Rattle.ca_records.proofs.Steps.{seen, store_of}
use Rattle.ca_records.proofs.served_records.ServedRecords.append.Goals as goal

pub invariant_of-self-2 : goal.invariant_of-self-2
invariant_of-self-2 c =
    let slots = c.self.inside.slots.items in
    let last : c.len-place.result ≡ length slots = search rules in
    let named = ap (λ (q : Record). q.state.name) c.new.ensures in
    let new : record_named (present (seen slots)) c.new.result.state.name ≡ None =
    subst (λ (s : Store). record_named (records_of s) c.new.result.state.name ≡ None) (sym c.self.view_is) (subst (λ (n : List ℕ). record_named (records_of c.args.self.now) n ≡ None) (sym named) c.requires.new) in
    let calm : c.new.result.waiting ≡ [] = ap (λ (q : Record). q.waiting) c.new.ensures in
    let grown = place_in-inserted (λ k. k.items) c.self.inside.places c.insert.new.self c.args.key c.len-place.result c.new.result.state.name (c.requires.key ∙ sym named) c.in_ok-insert.ensures.updates in
    let made = append-step slots c.self.inside.free _ _ c.self.inside.waiting c.self.inside.rules.items c.self.inside.stamp c.len-place.result c.new.result c.self.invariant last new calm grown in
    rw (c.push_reserved.ensures.items, c.in_ok-reserve.ensures.items) made.stored

pub returns-clause-ok : goal.returns-clause-ok
returns-clause-ok c =
    let slots = c.self.inside.slots.items in
    let rules_now = c.self.inside.rules.items in
    let stamp = c.self.inside.stamp in
    let last : c.len-place.result ≡ length slots = search rules in
    let named = ap (λ (q : Record). q.state.name) c.new.ensures in
    let new : record_named (present (seen slots)) c.new.result.state.name ≡ None =
    subst (λ (s : Store). record_named (records_of s) c.new.result.state.name ≡ None) (sym c.self.view_is) (subst (λ (n : List ℕ). record_named (records_of c.args.self.now) n ≡ None) (sym named) c.requires.new) in
    let calm : c.new.result.waiting ≡ [] = ap (λ (q : Record). q.waiting) c.new.ensures in
    let grown = place_in-inserted (λ k. k.items) c.self.inside.places c.insert.new.self c.args.key c.len-place.result c.new.result.state.name (c.requires.key ∙ sym named) c.in_ok-insert.ensures.updates in
    let made = append-step slots c.self.inside.free _ _ c.self.inside.waiting rules_now stamp c.len-place.result c.new.result c.self.invariant last new calm grown in
    let more : slots ++ Full c.new.result ∷ [] ≡ c.push_reserved.new.self.items = sym (c.push_reserved.ensures.items ∙ ap (λ (t : List RecordSlot). t ++ Full c.new.result ∷ []) c.in_ok-reserve.ensures.items) in
    let filled : Enters (store_of slots rules_now stamp) c.len-place.result c.new.result (store_of c.push_reserved.new.self.items rules_now stamp) =
    subst (λ (t : List RecordSlot). Enters (store_of slots rules_now stamp) c.len-place.result c.new.result (store_of t rules_now stamp)) more made.enters in
    rw (← c.self.view_is) (subst (λ (q : Record). Enters (store_of slots rules_now stamp) c.len-place.result q (store_of c.push_reserved.new.self.items rules_now stamp)) c.new.ensures filled)
