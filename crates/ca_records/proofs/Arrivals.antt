-- A store after a record came or left.
use Rattle.std.proofs.Common.{◌≡◌, ◌⊎◌, inl, inr, ℕ, zero, suc, ◌+◌, ◌<◌, List, [], ◌∷◌, ◌++◌, length, true, false, cond, get_or, Option, None, Some, slice_set, refl, sym, ap, ◌∙◌, subst, arith}
use Rattle.std.specs.Str.{bytes_eq}
use Rattle.std.proofs.lemmas.Slice.Eq.{bytes_eq-Decides}
use Rattle.std.proofs.lemmas.List.{length-map, map-set}
use Rattle.std.proofs.lemmas.List.Sums.{sum_by_push}
use Rattle.ca_text.specs.Place.{At}
use Rattle.ca_text.proofs.Places.{At-append, At-last, At-map, At-one, At-set, At-set-other, At-snoc, At-within, some_is}
use Rattle.ca_records.specs.declared.slot.RecordSlot.{RecordSlot}
use Rattle.ca_records.specs.declared.slot.RecordSlot.TheVariants.{Free, Full}
use Rattle.ca_records.specs.Chain.{Chain, IsFull, IsStored, record_in}
use Rattle.ca_records.specs.Layout.{IsIndexOf}
use Rattle.ca_records.specs.declared.puts.Stamp.{Stamp}
use Rattle.ca_records.specs.Puts.{Record, record_named, waiting_in}
use Rattle.ca_records.specs.Rules.{Rule}
use Rattle.ca_records.specs.Store.{Enters, Finds, Store, present}
use Rattle.ca_records.specs.Writes.{Leaves}
use Rattle.ca_records.proofs.Copies.{at_get}
use Rattle.ca_records.proofs.Presence.{Lack, around, has-name, has_name, present-snoc, removed-one, waiting-came, waiting-gone}
use Rattle.ca_records.proofs.Steps.{At-set-here, chain-append, chain-set, full-apart, index-lacks-but, seen, seen-full, store_of}
use Rattle.ca_records.proofs.Waiters.{true_or_false}

-- ---- the index

none-some : (q : Record) → let a : Option Record = None in a ≡ Some q → ⊥
none-some q e = cc

some-none : (q : Record) → let a : Option Record = Some q in a ≡ None → ⊥
some-none q e = cc

free-one : (a b : Option ℕ) → let s : RecordSlot = Free a in s ≡ Free b → a ≡ b
free-one a b e = cc

-- what a place has is the first slot, or one of the others
lacks-in : (name : List ℕ) (slot : Option Record) (slots : List (Option Record)) (j : ℕ) (b : Record) → Lack name slots → (slot ≡ Some b → has_name name b ≡ false) → At (slot ∷ slots) j (Some b) → has_name name b ≡ false
lacks-in name slot slots zero b lack first at = first (some_is slot (Some b) at)
lacks-in name slot slots (suc j) b lack first at = lack j b at

-- a name that is not found is no record's
pub lacks-named : (name : List ℕ) (slots : List (Option Record)) → record_named (present slots) name ≡ None → Lack name slots
lacks-named name [] none = λ j b at. absurd cc
lacks-named name (None ∷ slots) none = λ j b at. lacks-in name None slots j b (lacks-named name slots none) (λ h. cc) at
lacks-named name (Some r ∷ slots) none = elim (true_or_false (has_name name r)) [
  | inl h ↦ let found : record_named (present (Some r ∷ slots)) name ≡ Some r = rw h refl in absurd cc
  | inr h ↦
      let rest : record_named (present slots) name ≡ None = rw h at none in
      λ j b at. lacks-in name (Some r) slots j b (lacks-named name slots rest) (λ e. let same : r ≡ b = some_is r b e in ap (λ q. has_name name q) (sym same) ∙ h) at
]

-- the index after a record of a new name came
pub index-enters : (slots more : List (Option Record)) (f g : List ℕ → Option ℕ) (place : ℕ) (r : Record) → IsIndexOf slots f → Lack r.state.name slots → At more place (Some r) → ((other : ℕ) (q : Record) → At slots other (Some q) → At more other (Some q)) → ((other : ℕ) (q : Record) → At more other (Some q) → ((other ≡ place) × (q ≡ r)) ⊎ At slots other (Some q)) → ((name : List ℕ) → g name ≡ cond (bytes_eq name r.state.name) (Some place) (f name)) → IsIndexOf more g
index-enters slots more f g place r index lack here stay split grown = record {
  found = λ name other e. elim (true_or_false (bytes_eq name r.state.name)) [
    | inl hit ↦
        let at : g name ≡ Some place = rw hit at (grown name) in
        let same : name ≡ r.state.name = (bytes_eq-Decides name r.state.name).0 hit in
        let one : place ≡ other = some_is place other (sym at ∙ e) in
        (r, subst (λ (n : ℕ). At more n (Some r)) one here, sym same)
    | inr miss ↦
        let at : g name ≡ f name = rw miss at (grown name) in
        let there = index.found name other (sym at ∙ e) in
        (there.0, stay other there.0 there.1, there.2)
  ];
  listed = λ other q at. elim (split other q at) [
    | inl h ↦
        let hit : bytes_eq r.state.name r.state.name ≡ true = (bytes_eq-Decides r.state.name r.state.name).1 refl in
        let there : g r.state.name ≡ Some place = rw hit at (grown r.state.name) in
        ap (λ (s : Record). g s.state.name) h.1 ∙ there ∙ ap Some (sym h.0)
    | inr old ↦
        let miss : bytes_eq q.state.name r.state.name ≡ false = lack other q old in
        let same : g q.state.name ≡ f q.state.name = rw miss at (grown q.state.name) in
        same ∙ index.listed other q old
  ];
}

-- ---- a record comes

free-chain : (slots : List RecordSlot) (place : ℕ) (freed : List ℕ) → Chain slots (Some place) freed → (next : Option ℕ) × (rest : List ℕ) × At slots place (Free next) × Chain slots next rest × ((k : ℕ) → At rest k place → ⊥)
free-chain slots place [] chain = absurd cc
free-chain slots place (j ∷ rest) chain =
    let same : j ≡ place = sym (some_is place j chain.0) in
    let out : (k : ℕ) → At rest k place → ⊥ = λ k at. chain.1 k (subst (λ (n : ℕ). At rest k n) (sym same) at) in
    (chain.2.0, rest, subst (λ (n : ℕ). At slots n (Free chain.2.0)) same chain.2.1, chain.2.2, out)

-- the first free place is one of the places, and free
pub free-at : (slots : List RecordSlot) (place : ℕ) (f : List ℕ → Option ℕ) (waiting : ℕ) → IsStored slots (Some place) f waiting → (next : Option ℕ) × (rest : List ℕ) × At slots place (Free next) × Chain slots next rest × ((k : ℕ) → At rest k place → ⊥)
free-at slots place f waiting stored = free-chain slots place stored.freed stored.chain

pub free-within : (slots : List RecordSlot) (place : ℕ) (f : List ℕ → Option ℕ) (waiting : ℕ) → IsStored slots (Some place) f waiting → place < length slots
free-within slots place f waiting stored = let at = free-at slots place f waiting stored in At-within slots place (Free at.0) at.2

pub looked-free : (slots : List RecordSlot) (place : ℕ) (f : List ℕ → Option ℕ) (waiting : ℕ) (s : RecordSlot) → IsStored slots (Some place) f waiting → s ≡ get_or slots place s → (next : Option ℕ) × (s ≡ Free next)
looked-free slots place f waiting s stored read =
    let at = free-at slots place f waiting stored in
    let there : At slots place s = subst (λ (t : RecordSlot). At slots place t) (sym read) (at_get slots place s (free-within slots place f waiting stored)) in
    (at.0, At-one slots place s (Free at.0) there at.2)

pub not-full : (s : RecordSlot) (next : Option ℕ) → s ≡ Free next → IsFull s → ⊥
not-full (Full r) next e full = absurd cc
not-full (Free other) next e full = full

pub record EnterStep (slots : List RecordSlot) (more : List RecordSlot) (free : Option ℕ) (g : List ℕ → Option ℕ) (rules : List Rule) (stamp : Stamp) (place : ℕ) (r : Record) (waiting : ℕ) : Type 0 where
  pub stored : IsStored more free g waiting
  pub enters : Enters (store_of slots rules stamp) place r (store_of more rules stamp)

pub enter-step : (slots : List RecordSlot) (f g : List ℕ → Option ℕ) (waiting : ℕ) (rules : List Rule) (stamp : Stamp) (place : ℕ) (s : RecordSlot) (next : Option ℕ) (r : Record) → IsStored slots (Some place) f waiting → s ≡ get_or slots place s → s ≡ Free next → record_named (present (seen slots)) r.state.name ≡ None → r.waiting ≡ [] → ((name : List ℕ) → g name ≡ cond (bytes_eq name r.state.name) (Some place) (f name)) → EnterStep slots (slice_set slots place (Full r)) next g rules stamp place r waiting
enter-step slots f g waiting rules stamp place s next r stored read free_is new calm grown =
    let at = free-at slots place f waiting stored in
    let is : (n : Option ℕ) × (s ≡ Free n) = looked-free slots place f waiting s stored read in
    let there : At slots place s = subst (λ (t : RecordSlot). At slots place t) (sym read) (at_get slots place s (free-within slots place f waiting stored)) in
    let both : let a : RecordSlot = Free at.0 in a ≡ Free next = At-one slots place (Free at.0) (Free next) at.2 (subst (λ (t : RecordSlot). At slots place t) free_is there) in
    let goes_on : at.0 ≡ next = free-one at.0 next both in
    let blank : At (seen slots) place None = At-map record_in slots place (Free at.0) at.2 in
    let after : seen (slice_set slots place (Full r)) ≡ slice_set (seen slots) place (Some r) = map-set record_in slots place (Full r) in
    let lack = lacks-named r.state.name (seen slots) new in
    let here : At (slice_set (seen slots) place (Some r)) place (Some r) = At-set-here (seen slots) place None (Some r) blank in
    let stay : (other : ℕ) (q : Record) → At (seen slots) other (Some q) → At (slice_set (seen slots) place (Some r)) other (Some q) =
    λ other q old. At-set-other (seen slots) place other (Some q) (Some r) old (λ e. none-some q (At-one (seen slots) place None (Some q) blank (subst (λ (n : ℕ). At (seen slots) n (Some q)) e old))) in
    let split : (other : ℕ) (q : Record) → At (slice_set (seen slots) place (Some r)) other (Some q) → ((other ≡ place) × (q ≡ r)) ⊎ At (seen slots) other (Some q) =
    λ other q now. elim (At-set (seen slots) place (Some r) other (Some q) now) [ inl h ↦ inl (h.0, some_is q r h.1) | inr h ↦ inr h.0 ] in
    let parts = around (seen slots) place r blank in
    let count = waiting-came (seen slots) place r blank in
    record {
      stored = record {
        index = subst (λ (t : List (Option Record)). IsIndexOf t g) (sym after) (index-enters (seen slots) (slice_set (seen slots) place (Some r)) f g place r stored.index lack here stay split grown);
        freed = at.1;
        chain = chain-set slots next at.1 place (Full r) at.4 (subst (λ (n : Option ℕ). Chain slots n at.1) goes_on at.3);
        counted =
            let none : length r.waiting ≡ 0 = ap length calm in
            let now : waiting ≡ waiting_in (present (slice_set (seen slots) place (Some r))) = omega (arith, stored.counted, count, none) in
            now ∙ ap (λ (t : List (Option Record)). waiting_in (present t)) (sym after);
      };
      enters = record {
        leaves = inl (blank, ap (λ (t : List (Option Record)). let o : Store = record { slots = t; rules = rules; stamp = stamp } in o) after);
        at = subst (λ (t : List (Option Record)). At t place (Some r)) (sym after) here;
        stay = λ other q old. subst (λ (t : List (Option Record)). At t other (Some q)) (sym after) (stay other q old);
        before = parts.before;
        after = parts.after;
        were = parts.were;
        are = ap present after ∙ parts.are;
      };
    }

seen-snoc : (slots : List RecordSlot) (r : Record) → seen (slots ++ Full r ∷ []) ≡ seen slots ++ Some r ∷ []
seen-snoc [] r = refl
seen-snoc (s ∷ slots) r = ap (λ t. record_in s ∷ t) (seen-snoc slots r)

nothing-more : {A : Type 0} (xs : List A) → xs ≡ xs ++ []
nothing-more [] = refl
nothing-more (x ∷ xs) = ap (λ t. x ∷ t) (nothing-more xs)

pub append-step : (slots : List RecordSlot) (free : Option ℕ) (f g : List ℕ → Option ℕ) (waiting : ℕ) (rules : List Rule) (stamp : Stamp) (place : ℕ) (r : Record) → IsStored slots free f waiting → place ≡ length slots → record_named (present (seen slots)) r.state.name ≡ None → r.waiting ≡ [] → ((name : List ℕ) → g name ≡ cond (bytes_eq name r.state.name) (Some place) (f name)) → EnterStep slots (slots ++ Full r ∷ []) free g rules stamp place r waiting
append-step slots free f g waiting rules stamp place r stored last new calm grown =
    let after : seen (slots ++ Full r ∷ []) ≡ seen slots ++ Some r ∷ [] = seen-snoc slots r in
    let lack = lacks-named r.state.name (seen slots) new in
    let end : place ≡ length (seen slots) = last ∙ sym (length-map slots record_in) in
    let here : At (seen slots ++ Some r ∷ []) place (Some r) = subst (λ (n : ℕ). At (seen slots ++ Some r ∷ []) n (Some r)) (sym end) (At-last (seen slots) (Some r)) in
    let stay : (other : ℕ) (q : Record) → At (seen slots) other (Some q) → At (seen slots ++ Some r ∷ []) other (Some q) =
    λ other q old. At-append (seen slots) (Some r ∷ []) other (Some q) old in
    let split : (other : ℕ) (q : Record) → At (seen slots ++ Some r ∷ []) other (Some q) → ((other ≡ place) × (q ≡ r)) ⊎ At (seen slots) other (Some q) =
    λ other q now. elim (At-snoc (seen slots) (Some r) other (Some q) now) [ inl h ↦ inr h | inr h ↦ inl (h.0 ∙ sym end, some_is q r h.1) ] in
    let were : present (seen slots ++ Some r ∷ []) ≡ present (seen slots) ++ r ∷ [] = present-snoc (seen slots) r in
    record {
      stored = record {
        index = subst (λ (t : List (Option Record)). IsIndexOf t g) (sym after) (index-enters (seen slots) (seen slots ++ Some r ∷ []) f g place r stored.index lack here stay split grown);
        freed = stored.freed;
        chain = chain-append slots (Full r ∷ []) free stored.freed stored.chain;
        counted =
            let none : length r.waiting ≡ 0 = ap length calm in
            let more : waiting_in (present (seen slots) ++ r ∷ []) ≡ waiting_in (present (seen slots)) + length r.waiting = sum_by_push (λ (q : Record). length q.waiting) (present (seen slots)) r in
            let now : waiting ≡ waiting_in (present (seen slots) ++ r ∷ []) = omega (arith, stored.counted, more, none) in
            now ∙ ap waiting_in (sym were) ∙ ap (λ (t : List (Option Record)). waiting_in (present t)) (sym after);
      };
      enters = record {
        leaves = inr (end, ap (λ (t : List (Option Record)). let o : Store = record { slots = t; rules = rules; stamp = stamp } in o) after);
        at = subst (λ (t : List (Option Record)). At t place (Some r)) (sym after) here;
        stay = λ other q old. subst (λ (t : List (Option Record)). At t other (Some q)) (sym after) (stay other q old);
        before = present (seen slots);
        after = [];
        were = nothing-more (present (seen slots));
        are = ap present after ∙ were;
      };
    }

-- ---- a record leaves

-- the index after a record left
index-leaves : (slots : List (Option Record)) (f g : List ℕ → Option ℕ) (place : ℕ) (r : Record) → IsIndexOf slots f → At slots place (Some r) → g r.state.name ≡ None → ((name : List ℕ) → bytes_eq name r.state.name ≡ false → g name ≡ f name) → IsIndexOf (slice_set slots place None) g
index-leaves slots f g place r index at gone others = record {
  found = λ name other e. elim (true_or_false (bytes_eq name r.state.name)) [
    | inl hit ↦
        let same : name ≡ r.state.name = (bytes_eq-Decides name r.state.name).0 hit in
        let none : g name ≡ None = ap g same ∙ gone in
        absurd cc
    | inr miss ↦
        let there = index.found name other (sym (others name miss) ∙ e) in
        let apart : other ≡ place → ⊥ = λ h.
        let here : At slots place (Some there.0) = subst (λ (n : ℕ). At slots n (Some there.0)) h there.1 in
        let one : r ≡ there.0 = some_is r there.0 (At-one slots place (Some r) (Some there.0) at here) in
        let named : name ≡ r.state.name = sym there.2 ∙ ap (λ (q : Record). q.state.name) (sym one) in
        let hit : bytes_eq name r.state.name ≡ true = (bytes_eq-Decides name r.state.name).1 named in
        cc in
        (there.0, At-set-other slots place other (Some there.0) None there.1 apart, there.2)
  ];
  listed = λ other q now. elim (At-set slots place None other (Some q) now) [
    | inl h ↦ absurd (some-none q h.1)
    | inr h ↦
        let miss : bytes_eq q.state.name r.state.name ≡ false = index-lacks-but slots f r.state.name place index (index.listed place r at) other q h.0 h.1 in
        others q.state.name miss ∙ index.listed other q h.0
  ];
}

pub record LeaveStep (slots : List RecordSlot) (free : Option ℕ) (g : List ℕ → Option ℕ) (rules : List Rule) (stamp : Stamp) (name : List ℕ) (place : ℕ) (more : ℕ) : Type 0 where
  pub stored : IsStored (slice_set slots place (Free free)) (Some place) g more
  pub leaves : Leaves (store_of slots rules stamp) name place (store_of (slice_set slots place (Free free)) rules stamp)

pub leave-step : (slots : List RecordSlot) (free : Option ℕ) (f g : List ℕ → Option ℕ) (waiting more : ℕ) (rules : List Rule) (stamp : Stamp) (name : List ℕ) (place : ℕ) (r : Record) → IsStored slots free f waiting → At slots place (Full r) → Finds (store_of slots rules stamp) name place → g name ≡ None → ((other : List ℕ) → bytes_eq other name ≡ false → g other ≡ f other) → more + length r.waiting ≡ waiting → LeaveStep slots free g rules stamp name place more
leave-step slots free f g waiting more rules stamp name place r stored full found gone others less =
    let at : At (seen slots) place (Some r) = seen-full slots place r full in
    let same : found.r ≡ r = some_is found.r r (At-one (seen slots) place (Some found.r) (Some r) found.at at) in
    let named : r.state.name ≡ name = ap (λ (q : Record). q.state.name) (sym same) ∙ found.named in
    let after : seen (slice_set slots place (Free free)) ≡ slice_set (seen slots) place None = map-set record_in slots place (Free free) in
    let count = waiting-gone (seen slots) place r at in
    let listed : f name ≡ Some place = ap f (sym named) ∙ stored.index.listed place r at in
    record {
      stored = record {
        index = subst (λ (t : List (Option Record)). IsIndexOf t g) (sym after) (index-leaves (seen slots) f g place r stored.index at (ap g named ∙ gone) (λ other miss. others other (ap (λ b. bytes_eq other b) (sym named) ∙ miss)));
        freed = place ∷ stored.freed;
        chain =
            let out = full-apart slots free stored.freed place r full stored.chain in
            (refl, out, (free, At-set-here slots place (Full r) (Free free) full, chain-set slots free stored.freed place (Free free) out stored.chain));
        counted =
            let now : more ≡ waiting_in (present (slice_set (seen slots) place None)) = omega (arith, stored.counted, count, less) in
            now ∙ ap (λ (t : List (Option Record)). waiting_in (present t)) (sym after);
      };
      leaves = record {
        r = r;
        found = found.found ∙ ap Some same;
        at = at;
        leaves = ap (λ (t : List (Option Record)). let o : Store = record { slots = t; rules = rules; stamp = stamp } in o) after;
        records = ap present after ∙ removed-one name (seen slots) place r at (has-name name r named) (index-lacks-but (seen slots) f name place stored.index listed);
      };
    }
