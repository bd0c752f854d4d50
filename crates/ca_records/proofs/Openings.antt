-- A store that is made of a list of records, one after another.
use Rattle.std.proofs.Common.{◌≡◌, inl, inr, ℕ, ◌+◌, ◌≤◌, List, [], ◌∷◌, ◌++◌, Option, None, Some, get_or, length, map, refl, ap, ◌∙◌, subst, sym, take, take_all}
use Rattle.std.proofs.lemmas.Slice.Eq.{bytes_eq-Decides}
use Rattle.ca_text.specs.Place.{At}
use Rattle.ca_text.proofs.Places.{At-mapped, At-one, At-within, some_is}
use Rattle.ca_records.specs.Puts.{Record, new_record, record_named}
use Rattle.ca_records.specs.Record.{RecordState}
use Rattle.ca_records.specs.Records.{AreApart}
use Rattle.ca_records.specs.Rules.{Rule}
use Rattle.ca_records.specs.Store.{Store, new_store, present, records_of, with_place}
use Rattle.ca_records.proofs.Copies.{at_get, copy-fresh, copy-more}
use Rattle.ca_records.proofs.Presence.{has_name, named-none}
use Rattle.ca_records.proofs.Waiters.{true_or_false}

abbrev pub free : RecordState → Option Record
free s = Some (new_record s)

read : (xs : List RecordState) (i : ℕ) (x : RecordState) → At xs i x → x ≡ get_or xs i x
read xs i x at = At-one xs i x (get_or xs i x) at (at_get xs i x (At-within xs i x at))

pub opening-fresh : (xs : List RecordState) (i : ℕ) (x : RecordState) (rules : List Rule) (served : Store) → AreApart xs → At xs i x → served ≡ new_store (take i xs) rules → record_named (records_of served) x.name ≡ None
opening-fresh xs i x rules served apart at is =
    subst (λ (s : Store). record_named (records_of s) x.name ≡ None) (sym is) (named-none x.name (map free (take i xs)) (λ j b there.
    let under = At-mapped free (take i xs) j (Some b) there in
    let same : b ≡ new_record under.0 = some_is b (new_record under.0) under.2 in
    elim (true_or_false (has_name x.name b)) [
      | inl h ↦
          let named : b.state.name ≡ x.name = (bytes_eq-Decides b.state.name x.name).0 h in
          let is_named : under.0.name ≡ x.name = ap (λ (q : Record). q.state.name) (sym same) ∙ named in
          absurd (copy-fresh xs i x apart (At-within xs i x at) (read xs i x at) (j, record { state = under.0; at = under.1; named = is_named }))
      | inr h ↦ h
    ]))

map-snoc : (ys : List RecordState) (x : RecordState) → map free ys ++ free x ∷ [] ≡ map free (ys ++ x ∷ [])
map-snoc [] x = refl
map-snoc (y ∷ ys) x = ap (λ t. free y ∷ t) (map-snoc ys x)

pub opening-more : (xs : List RecordState) (i : ℕ) (x : RecordState) (rules : List Rule) (served new : Store) → At xs i x → served ≡ new_store (take i xs) rules → new ≡ with_place (new_record x) served → new ≡ new_store (take (i + 1) xs) rules
opening-more xs i x rules served new at is more =
    let taken : take i xs ++ x ∷ [] ≡ take (i + 1) xs = copy-more xs (take i xs) (take i xs ++ x ∷ []) i x (At-within xs i x at) (read xs i x at) refl refl in
    more ∙ ap (with_place (new_record x)) is
    ∙ ap (λ (t : List (Option Record)). let s : Store = record { slots = t; rules = rules; stamp = record { seconds = 0; nanos = 0 } } in s) (map-snoc (take i xs) x)
    ∙ ap (λ (t : List RecordState). new_store t rules) taken

present-free : (xs : List RecordState) → present (map free xs) ≡ map new_record xs
present-free [] = refl
present-free (x ∷ xs) = ap (λ t. new_record x ∷ t) (present-free xs)

pub opening-all : (xs : List RecordState) (i : ℕ) (rules : List Rule) (served : Store) → length xs ≤ i → served ≡ new_store (take i xs) rules → records_of served ≡ map new_record xs
opening-all xs i rules served all is = ap records_of is ∙ ap (λ (t : List RecordState). present (map free t)) (take_all i xs all) ∙ present-free xs
