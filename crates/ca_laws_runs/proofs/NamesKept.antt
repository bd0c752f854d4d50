-- A log that grows by one entry keeps that records have their names: what may come next.
use Rattle.std.proofs.Common.{◌≡◌, ℕ, zero, suc, ◌<◌, ◌⊎◌, inl, inr, Bool, true, false, cond, List, [], ◌∷◌, ◌++◌, length, refl, sym, ap, subst, ◌∙◌, append-nil, append_assoc, arith}
use Rattle.std.specs.Prelude.{filter, map, take}
use Rattle.std.specs.List.{flat_map}
use Rattle.std.specs.Str.{bytes_eq}
use Rattle.std.proofs.lemmas.Slice.Eq.{bytes_eq-Decides}
use Rattle.ca_records.specs.Record.{RecordState}
use Rattle.ca_text.specs.Place.{At}
use Rattle.ca_text.proofs.Places.{some_is, At-mapped, At-parts, At-snoc, At-within}
use Rattle.ca_model.specs.History.{Added, Applied, Entry, Finished, Posted, Removed, Waits, Withdrawn}
use Rattle.ca_model.specs.Speech.{In}
use Rattle.ca_model.specs.Channels.{Has}
use Rattle.ca_model.specs.ServerEvents.{removal_entries}
use Rattle.ca_model.specs.World.{PutPlace, RecordSide}
use Rattle.ca_laws_parts.specs.Agrees.{AreOthers, Lack}
use Rattle.ca_laws_parts.proofs.WritesLists.{none_at, take-front, take-whole}
use Rattle.ca_laws_runs.specs.Names.{KeepRecords}

-- ---- one entry more

-- what may be told next: a record that was never added, under a name that none has; the removal of
-- one that is there; or neither
abbrev pub MayName : List Entry → Entry → Type 0
MayName y (Added r s) = ((a : RecordState) → In y (Added r a) → ⊥) × ((q : ℕ) → Has y q s.name → ⊥)
MayName y (Removed r) = (name : List ℕ) × Has y r name
MayName y e = Unit {0}

-- and these, one after the other
abbrev pub MayNameAll : List Entry → List Entry → Type 0
MayNameAll y [] = Unit {0}
MayNameAll y (e ∷ es) = MayName y e × MayNameAll (y ++ e ∷ []) es

-- an entry that adds and removes nothing
abbrev pub IsPlain : Entry → Type 0
IsPlain (Added r s) = ⊥
IsPlain (Removed r) = ⊥
IsPlain e = Unit {0}

abbrev pub ArePlain : List Entry → Type 0
ArePlain es = (i : ℕ) (e : Entry) → At es i e → IsPlain e

pub plain-one : (y : List Entry) (e : Entry) → IsPlain e → MayName y e
plain-one y (Added r s) plain = absurd plain
plain-one y (Removed r) plain = absurd plain
plain-one y (Posted r mask v) plain = tt
plain-one y (Waits n k r v) plain = tt
plain-one y (Applied n k r v busies) plain = tt
plain-one y (Finished n k) plain = tt
plain-one y (Withdrawn n k) plain = tt

pub plain-all : (es y : List Entry) → ArePlain es → MayNameAll y es
plain-all [] y plain = tt
plain-all (e ∷ es) y plain = (plain-one y e (plain 0 e refl), plain-all es (y ++ e ∷ []) (λ i x at. plain (suc i) x at))

pub none-plain : ArePlain []
none-plain i e at = absurd (none_at i e at)

pub one-plain : (e : Entry) → IsPlain e → ArePlain (e ∷ [])
one-plain e plain zero x at = subst (λ (z : Entry). IsPlain z) (some_is e x at) plain
one-plain e plain (suc i) x at = absurd (none_at i x at)

pub both-plain : (xs ys : List Entry) → ArePlain xs → ArePlain ys → ArePlain (xs ++ ys)
both-plain xs ys f g i e at = elim (At-parts xs ys i e at) [ inl old ↦ f i e old | inr new ↦ g new.0 e new.2 ]

pub withdrawn-plain : (ps : List PutPlace) → ArePlain (map (λ (p : PutPlace). Withdrawn p.circuit p.place) ps)
withdrawn-plain ps i e at =
    let p = At-mapped (λ (p : PutPlace). Withdrawn p.circuit p.place) ps i e at in
    subst (λ (x : Entry). IsPlain x) (sym p.2) tt

keep-snoc : (y : List Entry) (e : Entry) → MayName y e → KeepRecords y → KeepRecords (y ++ e ∷ [])
keep-snoc y e may k = record {
  one_record = λ i j r a b first second. elim (At-snoc y e i (Added r a) first) [
    | inl old ↦ elim (At-snoc y e j (Added r b) second) [
      | inl too ↦ k.one_record i j r a b old too
      | inr last ↦ absurd (fresh r a b (sym last.1) (i, old))
    ]
    | inr now ↦ elim (At-snoc y e j (Added r b) second) [
      | inl old ↦ absurd (fresh r b a (sym now.1) (j, old))
      | inr last ↦ now.0 ∙ sym last.0
    ]
  ];
  one_at_once = λ i r q s at has. elim (At-snoc y e i (Added r s) at) [
    | inl old ↦ k.one_at_once i r q s old (subst (λ (l : List Entry). Has l q s.name) (before i (At-within y i (Added r s) old)) has)
    | inr last ↦ alone r s (sym last.1) q (subst (λ (l : List Entry). Has l q s.name) (all i last.0) has)
  ];
  was_there = λ i r at. elim (At-snoc y e i (Removed r) at) [
    | inl old ↦ (let w = k.was_there i r old in (w.0, subst (λ (l : List Entry). Has l r w.0) (sym (before i (At-within y i (Removed r) old))) w.1))
    | inr last ↦ (let w = there r (sym last.1) in (w.0, subst (λ (l : List Entry). Has l r w.0) (sym (all i last.0)) w.1))
  ];
}
  where
    before : (i : ℕ) → i < length y → take i (y ++ e ∷ []) ≡ take i y
    before i lt = take-front i y (e ∷ []) (omega (arith, lt))

    all : (i : ℕ) → i ≡ length y → take i (y ++ e ∷ []) ≡ y
    all i is = take-front i y (e ∷ []) (omega (arith, is)) ∙ ap (λ (n : ℕ). take n y) is ∙ take-whole y

    fresh : (r : ℕ) (a b : RecordState) → e ≡ Added r b → In y (Added r a) → ⊥
    fresh r a b is old = (subst (λ (x : Entry). MayName y x) is may).0 a old

    alone : (r : ℕ) (s : RecordState) → e ≡ Added r s → (q : ℕ) → Has y q s.name → ⊥
    alone r s is q has = (subst (λ (x : Entry). MayName y x) is may).1 q has

    there : (r : ℕ) → e ≡ Removed r → (name : List ℕ) × Has y r name
    there r is = subst (λ (x : Entry). MayName y x) is may

pub keep-more : (es y : List Entry) → MayNameAll y es → KeepRecords y → KeepRecords (y ++ es)
keep-more [] y may k = subst (λ (l : List Entry). KeepRecords l) (sym (append-nil y)) k
keep-more (e ∷ es) y may k =
    subst (λ (l : List Entry). KeepRecords l) (append_assoc y (e ∷ []) es) (keep-more es (y ++ e ∷ []) may.1 (keep-snoc y e may.0 k))

-- ---- a removal

lack-none : (name : List ℕ) (number : ℕ) (rs : List RecordSide) → Lack name number rs → filter (λ (r : RecordSide). bytes_eq r.name name) rs ≡ []
lack-none name number [] lack = refl
lack-none name number (r ∷ rs) lack = go (bytes_eq r.name name) refl (lack-none name number rs lack.1)
  where
    go : (b : Bool) → bytes_eq r.name name ≡ b → filter (λ (x : RecordSide). bytes_eq x.name name) rs ≡ [] → cond b (r ∷ filter (λ (x : RecordSide). bytes_eq x.name name) rs) (filter (λ (x : RecordSide). bytes_eq x.name name) rs) ≡ []
    go true is rest = absurd (lack.0.0 ((bytes_eq-Decides r.name name).0 is))
    go false is rest = rest

-- at most one record has a name
pub one-named : (name : List ℕ) (rs : List RecordSide) → AreOthers rs
    → (filter (λ (r : RecordSide). bytes_eq r.name name) rs ≡ []) ⊎ ((x : RecordSide) × In rs x × (filter (λ (r : RecordSide). bytes_eq r.name name) rs ≡ x ∷ []))
one-named name [] others = inl refl
one-named name (r ∷ rs) others = go (bytes_eq r.name name) refl (one-named name rs others.1)
  where
    named : List RecordSide → List RecordSide
    named xs = filter (λ (x : RecordSide). bytes_eq x.name name) xs

    go : (b : Bool) → bytes_eq r.name name ≡ b → (named rs ≡ []) ⊎ ((x : RecordSide) × In rs x × (named rs ≡ x ∷ [])) → (cond b (r ∷ named rs) (named rs) ≡ []) ⊎ ((x : RecordSide) × In (r ∷ rs) x × (cond b (r ∷ named rs) (named rs) ≡ x ∷ []))
    go true is rest =
        let none : named rs ≡ [] = lack-none name r.number rs (subst (λ (n : List ℕ). Lack n r.number rs) ((bytes_eq-Decides r.name name).0 is) others.0) in
        inr (r, (0, refl), ap (λ (l : List RecordSide). r ∷ l) none)
    go false is (inl none) = inl none
    go false is (inr one) = inr (one.0, (suc one.1.0, one.1.1), one.2)

pub removal-names : (y : List Entry) (name : List ℕ) (rs : List RecordSide) → AreOthers rs → ((r : RecordSide) → In rs r → (n : List ℕ) × Has y r.number n) → MayNameAll y (removal_entries name rs)
removal-names y name rs others has = elim (one-named name rs others) [
  | inl none ↦ subst (λ (xs : List RecordSide). MayNameAll y (flat_map entries xs)) (sym none) tt
  | inr one ↦
      subst (λ (xs : List RecordSide). MayNameAll y (flat_map entries xs)) (sym one.2)
      (has one.0 one.1, plain-all (puts one.0 ++ []) (y ++ Removed (one.0).number ∷ []) (both-plain (puts one.0) [] (withdrawn-plain (one.0).waiting) none-plain))
]
  where
    puts : RecordSide → List Entry
    puts r = map (λ (p : PutPlace). Withdrawn p.circuit p.place) r.waiting

    entries : RecordSide → List Entry
    entries r = Removed r.number ∷ puts r
