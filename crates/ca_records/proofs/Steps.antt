-- A store after one of its records changed, came or left.
use Rattle.std.proofs.Common.{◌≡◌, ◌≢◌, ◌⊎◌, inl, inr, ℕ, zero, suc, ◌+◌, List, [], ◌∷◌, ◌++◌, length, get_or, map, MatchOption, Option, None, Some, slice_set, refl, sym, ap, ◌∙◌, subst, arith}
use Rattle.std.proofs.lemmas.Slice.Eq.{bytes_eq-Decides}
use Rattle.std.proofs.lemmas.List.{map-set}
use Rattle.ca_text.specs.Place.{At}
use Rattle.ca_text.proofs.Places.{At-append, At-map, At-mapped, At-one, At-set, At-set-other, At-within, some_is}
use Rattle.ca_records.specs.declared.slot.RecordSlot.{RecordSlot}
use Rattle.ca_records.specs.declared.slot.RecordSlot.TheVariants.{Free, Full}
use Rattle.ca_records.specs.Chain.{Chain, IsStored, record_in}
use Rattle.ca_records.specs.Layout.{IsIndexOf}
use Rattle.ca_records.specs.declared.puts.Stamp.{Stamp}
use Rattle.ca_records.specs.Puts.{Record, record_named, waiting_in}
use Rattle.ca_records.specs.Rules.{Rule}
use Rattle.ca_records.specs.Store.{Becomes, Finds, Store, present}
use Rattle.ca_records.proofs.Copies.{at_get}
use Rattle.ca_records.proofs.Presence.{Lack, LackBut, has-name, has_name, named-none, named-one, waiting-set, with-one}
use Rattle.ca_records.proofs.Waiters.{true_or_false}

-- ---- lists that are written at a place

pub set-same : {A : Type 0} (xs : List A) (i : ℕ) (x : A) → At xs i x → slice_set xs i x ≡ xs
set-same [] i x at = refl
set-same (z ∷ xs) zero x at = ap (λ w. w ∷ xs) (sym (some_is z x at))
set-same (z ∷ xs) (suc i) x at = ap (λ zs. z ∷ zs) (set-same xs i x at)

pub At-set-here : {A : Type 0} (xs : List A) (i : ℕ) (x y : A) → At xs i x → At (slice_set xs i y) i y
At-set-here [] i x y at = absurd cc
At-set-here (z ∷ xs) zero x y at = refl
At-set-here (z ∷ xs) (suc i) x y at = At-set-here xs i x y at

-- two numbers are one, or are not
nat_apart : (a b : ℕ) → (a ≡ b) ⊎ (a ≡ b → ⊥)
nat_apart zero zero = inl refl
nat_apart zero (suc b) = inr (λ h. omega (arith, h))
nat_apart (suc a) zero = inr (λ h. omega (arith, h))
nat_apart (suc a) (suc b) = elim (nat_apart a b) [ inl h ↦ inl (ap (λ n. suc n) h) | inr h ↦ inr (λ e. h (omega (arith, e))) ]

-- ---- slots

-- what a caller sees of these slots
abbrev pub seen : List RecordSlot → List (Option Record)
seen slots = map record_in slots

abbrev pub store_of : List RecordSlot → List Rule → Stamp → Store
store_of slots rules stamp = record { slots = seen slots; rules = rules; stamp = stamp }

full-is : (s : RecordSlot) (r : Record) → let a : Option Record = Some r in a ≡ record_in s → s ≡ Full r
full-is (Full q) r e = ap Full (sym (some_is r q e))
full-is (Free next) r e = absurd cc

free-is : (s : RecordSlot) → let a : Option Record = None in a ≡ record_in s → (next : Option ℕ) × (s ≡ Free next)
free-is (Full q) e = absurd cc
free-is (Free next) e = (next, refl)

pub full-there : (slots : List RecordSlot) (place : ℕ) (r : Record) → At (seen slots) place (Some r) → At slots place (Full r)
full-there slots place r at =
    let under = At-mapped record_in slots place (Some r) at in
    subst (λ (s : RecordSlot). At slots place s) (full-is under.0 r under.2) under.1

-- the slot that was looked at has the record
pub looked : (slots : List RecordSlot) (place : ℕ) (r : Record) (s : RecordSlot) (q : Record) → At (seen slots) place (Some r) → s ≡ get_or slots place s → s ≡ Full q → At slots place (Full q)
looked slots place r s q at read full =
    let there = full-there slots place r at in
    let within = At-within slots place (Full r) there in
    subst (λ (t : RecordSlot). At slots place t) full (subst (λ (t : RecordSlot). At slots place t) (sym read) (at_get slots place s within))

pub seen-full : (slots : List RecordSlot) (place : ℕ) (r : Record) → At slots place (Full r) → At (seen slots) place (Some r)
seen-full slots place r at = At-map record_in slots place (Full r) at

-- ---- the index

pub index-lacks : (slots : List (Option Record)) (f : List ℕ → Option ℕ) (name : List ℕ) → IsIndexOf slots f → f name ≡ None → Lack name slots
index-lacks slots f name index none = λ j b at. elim (true_or_false (has_name name b)) [
  | inl h ↦
      let same : b.state.name ≡ name = (bytes_eq-Decides b.state.name name).0 h in
      let here : f b.state.name ≡ Some j = index.listed j b at in
      absurd cc
  | inr h ↦ h
]

pub index-lacks-but : (slots : List (Option Record)) (f : List ℕ → Option ℕ) (name : List ℕ) (place : ℕ) → IsIndexOf slots f → f name ≡ Some place → LackBut name place slots
index-lacks-but slots f name place index there = λ j b at other. elim (true_or_false (has_name name b)) [
  | inl h ↦
      let same : b.state.name ≡ name = (bytes_eq-Decides b.state.name name).0 h in
      let here : f b.state.name ≡ Some j = index.listed j b at in
      let both : f name ≡ Some j = ap f (sym same) ∙ here in
      absurd (other (some_is j place (sym both ∙ there)))
  | inr h ↦ h
]

pub found-at : (slots : List (Option Record)) (f : List ℕ → Option ℕ) (place : ℕ) (r : Record) → IsIndexOf slots f → At slots place (Some r) → record_named (present slots) r.state.name ≡ Some r
found-at slots f place r index at =
    named-one r.state.name slots place r at (has-name r.state.name r refl) (index-lacks-but slots f r.state.name place index (index.listed place r at))

pub finds : (slots : List RecordSlot) (rules : List Rule) (stamp : Stamp) (f : List ℕ → Option ℕ) (name : List ℕ) (result : Option ℕ) → IsIndexOf (seen slots) f → result ≡ f name → MatchOption result (record_named (present (seen slots)) name ≡ None) (λ place. Finds (store_of slots rules stamp) name place)
finds slots rules stamp f name None index is = named-none name (seen slots) (index-lacks (seen slots) f name index (sym is))
finds slots rules stamp f name (Some place) index is =
    let there = index.found name place (sym is) in record {
      r = there.0;
      at = there.1;
      named = there.2;
      found = named-one name (seen slots) place there.0 there.1 (has-name name there.0 there.2) (index-lacks-but (seen slots) f name place index (sym is));
    }

-- ---- the chain of free places

pub chain-set : (slots : List RecordSlot) (first : Option ℕ) (freed : List ℕ) (i : ℕ) (s : RecordSlot) → ((k : ℕ) → At freed k i → ⊥) → Chain slots first freed → Chain (slice_set slots i s) first freed
chain-set slots first [] i s out chain = chain
chain-set slots first (j ∷ rest) i s out chain =
    let next = chain.2.0 in
    let apart : j ≢ i = λ h. out zero (ap Some h) in
    (chain.0, chain.1, (next, At-set-other slots i j (Free next) s chain.2.1 apart, chain-set slots next rest i s (λ k at. out (suc k) at) chain.2.2))

-- a place with a record is not among the free ones
pub full-apart : (slots : List RecordSlot) (first : Option ℕ) (freed : List ℕ) (i : ℕ) (r : Record) → At slots i (Full r) → Chain slots first freed → (k : ℕ) → At freed k i → ⊥
full-apart slots first [] i r full chain k at = absurd cc
full-apart slots first (j ∷ rest) i r full chain zero at =
    let same : j ≡ i = some_is j i at in
    let other : At slots i (Free chain.2.0) = subst (λ (n : ℕ). At slots n (Free chain.2.0)) same chain.2.1 in
    let both : Full r ≡ Free chain.2.0 = At-one slots i (Full r) (Free chain.2.0) full other in
    cc
full-apart slots first (j ∷ rest) i r full chain (suc k) at = full-apart slots chain.2.0 rest i r full chain.2.2 k at

pub chain-append : (slots more : List RecordSlot) (first : Option ℕ) (freed : List ℕ) → Chain slots first freed → Chain (slots ++ more) first freed
chain-append slots more first [] chain = chain
chain-append slots more first (j ∷ rest) chain =
    (chain.0, chain.1, (chain.2.0, At-append slots more j (Free chain.2.0) chain.2.1, chain-append slots more chain.2.0 rest chain.2.2))

-- ---- a record changes

-- the index still leads to all records after one became another of its name
index-changed : (slots : List (Option Record)) (f : List ℕ → Option ℕ) (place : ℕ) (r next : Record) → IsIndexOf slots f → At slots place (Some r) → next.state.name ≡ r.state.name → IsIndexOf (slice_set slots place (Some next)) f
index-changed slots f place r next index at same = record {
  found = λ name other e.
      let there = index.found name other e in
      elim (nat_apart other place) [
        | inl h ↦
            let here : At slots place (Some there.0) = subst (λ (n : ℕ). At slots n (Some there.0)) h there.1 in
            let one : r ≡ there.0 = some_is r there.0 (At-one slots place (Some r) (Some there.0) at here) in
            (next, subst (λ (n : ℕ). At (slice_set slots place (Some next)) n (Some next)) (sym h) (At-set-here slots place (Some r) (Some next) at), same ∙ ap (λ (q : Record). q.state.name) one ∙ there.2)
        | inr h ↦ (there.0, At-set-other slots place other (Some there.0) (Some next) there.1 h, there.2)
      ];
  listed = λ other q there. elim (At-set slots place (Some next) other (Some q) there) [
    | inl h ↦
        let one : q ≡ next = some_is q next h.1 in
        ap f (ap (λ (s : Record). s.state.name) one ∙ same) ∙ index.listed place r at ∙ ap Some (sym h.0)
    | inr h ↦ index.listed other q h.0
  ];
}

pub record Change (slots : List RecordSlot) (free : Option ℕ) (f : List ℕ → Option ℕ) (rules : List Rule) (stamp : Stamp) (place : ℕ) (r next : Record) (more : ℕ) : Type 0 where
  pub stored : IsStored (slice_set slots place (Full next)) free f more
  pub becomes : Becomes (store_of slots rules stamp) place r next (store_of (slice_set slots place (Full next)) rules stamp)

pub change : (slots : List RecordSlot) (free : Option ℕ) (f : List ℕ → Option ℕ) (waiting more : ℕ) (rules : List Rule) (stamp : Stamp) (place : ℕ) (r next : Record) → IsStored slots free f waiting → At slots place (Full r) → next.state.name ≡ r.state.name → more + length r.waiting ≡ waiting + length next.waiting → Change slots free f rules stamp place r next more
change slots free f waiting more rules stamp place r next stored full same counts =
    let at : At (seen slots) place (Some r) = seen-full slots place r full in
    let after : seen (slice_set slots place (Full next)) ≡ slice_set (seen slots) place (Some next) = map-set record_in slots place (Full next) in
    let but = index-lacks-but (seen slots) f r.state.name place stored.index (stored.index.listed place r at) in
    let sums = waiting-set (seen slots) place r next at in
    record {
      stored = record {
        index = subst (λ (s : List (Option Record)). IsIndexOf s f) (sym after) (index-changed (seen slots) f place r next stored.index at same);
        freed = stored.freed;
        chain = chain-set slots free stored.freed place (Full next) (full-apart slots free stored.freed place r full stored.chain) stored.chain;
        counted =
            let now : more ≡ waiting_in (present (slice_set (seen slots) place (Some next))) = omega (arith, sums, counts, stored.counted) in
            now ∙ ap (λ (s : List (Option Record)). waiting_in (present s)) (sym after);
      };
      becomes = record {
        at = at;
        there = subst (λ (s : List (Option Record)). At s place (Some next)) (sym after) (At-set-here (seen slots) place (Some r) (Some next) at);
        name = same;
        leaves = ap (λ (s : List (Option Record)). let t : Store = record { slots = s; rules = rules; stamp = stamp } in t) after;
        records = λ g makes.
            ap present after ∙ ap (λ (q : Record). present (slice_set (seen slots) place (Some q))) (sym makes)
            ∙ with-one r.state.name g (seen slots) place r at (has-name r.state.name r refl) but;
        same = λ e.
            ap (λ (s : List (Option Record)). let t : Store = record { slots = s; rules = rules; stamp = stamp } in t) (after ∙ ap (λ (q : Record). slice_set (seen slots) place (Some q)) e ∙ set-same (seen slots) place (Some r) at);
      };
    }
