use Rattle.std.proofs.Common.{◌≡◌, ◌<◌, ℕ, List, length, get_or, Some, sym, ap, ◌∙◌, subst}
use Rattle.std.proofs.lemmas.Slice.Eq.{bytes_eq-Decides}
use Rattle.ca_text.specs.Place.{At}
use Rattle.ca_records.specs.declared.slot.RecordSlot.{RecordSlot}
use Rattle.ca_records.specs.declared.slot.RecordSlot.TheVariants.{Full}
use Rattle.ca_records.specs.Puts.{Record, record_named}
use Rattle.ca_records.specs.Store.{present}
use Rattle.ca_records.proofs.Copies.{at_get}
use Rattle.ca_records.proofs.Steps.{found-at, seen, seen-full}
use Rattle.ca_records.proofs.served_records.ServedRecords.is_named.Goals as goal

pub returns-in-Some-Full : goal.returns-in-Some-Full
returns-in-Some-Full c yes_it =
    let slots = c.self.inside.slots.items in
    let r : Record = c.in-Some-Full.served in
    let s : RecordSlot = c.in-Some-Full.field-0.now in
    let looked = c.in-Some-Full.ensures.lookup in
    let deref = c.deref.ensures.value in
    let read : s ≡ get_or slots c.args.place s = rw deref at looked.1 in
    let within : c.args.place < length slots = rw deref at looked.3.0 in
    let there : At slots c.args.place s = subst (λ (t : RecordSlot). At slots c.args.place t) (sym read) (at_get slots c.args.place s within) in
    let full : At slots c.args.place (Full r) = subst (λ (t : RecordSlot). At slots c.args.place t) c.in-Some-Full.field-0-is there in
    let at : At (seen slots) c.args.place (Some r) = seen-full slots c.args.place r full in
    let named : r.state.name ≡ c.args.name.now =
    sym (c.name.ensures ∙ ap (λ x. x.name) c.state.ensures) ∙ (bytes_eq-Decides c.name.result.now c.args.name.now).0 (sym c.is_same_name.ensures ∙ yes_it) in
    let found : record_named (present (seen slots)) r.state.name ≡ Some r = found-at (seen slots) _ c.args.place r c.self.invariant.index at in
    rw (← c.self.view_is) (record { r = r; at = at; named = named; found = subst (λ (n : List ℕ). record_named (present (seen slots)) n ≡ Some r) named found })
