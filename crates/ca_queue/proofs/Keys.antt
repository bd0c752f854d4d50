-- Laws of subscriptions, and of how many of them pass a test.
use Rattle.std.proofs.Common.{◌≡◌, ℕ, ◌+◌, ◌≤◌, Bool, true, false, not, ◌||◌, cond, List, [], ◌∷◌, ◌++◌, eqb, refl, sym, ap, ◌∙◌, subst, inl, inr, arith}
use Rattle.std.specs.List.{list_any, count_by, filter}
use Rattle.std.proofs.lemmas.Bool.{eqb-true, eq-eqb, and_parts, and_from, or_parts, or_from, or_left, or_right, or_cases, cases_Bool, both_ways}
use Rattle.std.proofs.lemmas.List.Sums.{sum_by-cons}
use Rattle.ca_queue.specs.declared.entry.SubKey.{SubKey}
use Rattle.ca_queue.specs.Keys.{same, is_among, AreApart}

pub same_itself : (a : SubKey) → same a a ≡ true
same_itself a = and_from (eqb a.sid a.sid) (eqb a.sub a.sub) (eq-eqb a.sid a.sid refl) (eq-eqb a.sub a.sub refl)

pub same_is : (a b : SubKey) → same a b ≡ true → a ≡ b
same_is a b h =
    let parts = and_parts (eqb a.sid b.sid) (eqb a.sub b.sub) h in
    ap (λ (n : ℕ). let k : SubKey = record { sid = n; sub = a.sub } in k) (eqb-true a.sid b.sid parts.0)
    ∙ ap (λ (n : ℕ). let k : SubKey = record { sid = b.sid; sub = n } in k) (eqb-true a.sub b.sub parts.1)

-- two that differ, the other way round
pub other_sym : (a b : SubKey) → same a b ≡ false → same b a ≡ false
other_sym a b h =
    elim (cases_Bool (same b a)) [
      | inl is ↦ absurd (both_ways (same a b) h (subst (λ (k : SubKey). same a k ≡ true) (sym (same_is b a is)) (same_itself a)))
      | inr other ↦ other
    ]

abbrev pub number_of : Bool → ℕ
number_of b = cond b 1 0

pub number_of-le : (b : Bool) → number_of b ≤ 1
number_of-le true = omega arith
number_of-le false = omega arith

pub count_by-cons : {X : Type 0} (p : X → Bool) (x : X) (xs : List X) → count_by p (x ∷ xs) ≡ number_of (p x) + count_by p xs
count_by-cons p x xs = sum_by-cons (λ y. number_of (p y)) x xs

pub among_push : (k key : SubKey) (keys : List SubKey) → is_among k (keys ++ key ∷ []) ≡ (is_among k keys || same k key)
among_push k key [] = elim (cases_Bool (same k key)) [ inl is ↦ rw is refl | inr other ↦ rw other refl ]
among_push k key (first ∷ keys) =
    elim (cases_Bool (same k first)) [ inl is ↦ rw is refl | inr other ↦ rw other (among_push k key keys) ]

pub apart_push : (key : SubKey) (keys : List SubKey) → AreApart keys → is_among key keys ≡ false → AreApart (keys ++ key ∷ [])
apart_push key [] apart new = (refl, tt)
apart_push key (first ∷ keys) apart new =
    let parts = or_parts (same key first) (is_among key keys) new in (
      among_push first key keys ∙ or_from (is_among first keys) (same first key) apart.0 (other_sym key first parts.0),
      apart_push key keys apart.1 parts.1,
    )

-- the other subscriptions are those that were there
pub among_without : (k key : SubKey) (keys : List SubKey) → same key k ≡ false → is_among k (filter (λ s. not (same key s)) keys) ≡ is_among k keys
among_without k key [] other = refl
among_without k key (first ∷ keys) other =
    elim (cases_Bool (same key first)) [
      | inl is ↦
          let differs : same k first ≡ false = subst (λ (s : SubKey). same k s ≡ false) (same_is key first is) (other_sym key k other) in
          rw (is, differs) (among_without k key keys other)
      | inr not_it ↦ rw not_it (ap (λ (b : Bool). same k first || b) (among_without k key keys other))
    ]

pub none_left : (key : SubKey) (keys : List SubKey) → is_among key (filter (λ s. not (same key s)) keys) ≡ false
none_left key [] = refl
none_left key (first ∷ keys) =
    elim (cases_Bool (same key first)) [
      | inl is ↦ rw is (none_left key keys)
      | inr other ↦ rw (other, other) (none_left key keys)
    ]

pub apart_without : (key : SubKey) (keys : List SubKey) → AreApart keys → AreApart (filter (λ s. not (same key s)) keys)
apart_without key [] apart = tt
apart_without key (first ∷ keys) apart =
    elim (cases_Bool (same key first)) [
      | inl is ↦ rw is (apart_without key keys apart.1)
      | inr other ↦ rw other (among_without first key keys other ∙ apart.0, apart_without key keys apart.1)
    ]

pub counts_agree : (p r : SubKey → Bool) (keys : List SubKey) → ((k : SubKey) → p k ≡ r k) → count_by p keys ≡ count_by r keys
counts_agree p r [] agree = refl
counts_agree p r (first ∷ keys) agree =
    let here : number_of (p first) ≡ number_of (r first) = ap number_of (agree first) in
    omega (arith, counts_agree p r keys agree, count_by-cons p first keys, count_by-cons r first keys)

-- one that passes a test, and a test that one of them passes
pub any_among : (p : SubKey → Bool) (key : SubKey) (keys : List SubKey) → is_among key keys ≡ true → p key ≡ true → list_any p keys ≡ true
any_among p key [] there h = absurd (both_ways false refl there)
any_among p key (k ∷ keys) there h =
    elim (or_cases (same key k) (is_among key keys) there) [
      | inl is ↦ or_left (p k) (list_any p keys) (ap p (sym (same_is key k is)) ∙ h)
      | inr later ↦ or_right (p k) (list_any p keys) (any_among p key keys later h)
    ]

pub found_among : (p : SubKey → Bool) (keys : List SubKey) → list_any p keys ≡ true → (k : SubKey) × (p k ≡ true)
found_among p [] some = absurd (both_ways false refl some)
found_among p (k ∷ keys) some =
    elim (or_cases (p k) (list_any p keys) some) [
      | inl here ↦ (k, here)
      | inr later ↦ found_among p keys later
    ]

-- tests that answer alike for all but one subscription
abbrev pub AreAlike : (SubKey → Bool) → (SubKey → Bool) → SubKey → Type 0
AreAlike p r key = (k : SubKey) → same key k ≡ false → p k ≡ r k

pub counts_same : (p r : SubKey → Bool) (key : SubKey) (keys : List SubKey) → is_among key keys ≡ false → AreAlike p r key → count_by p keys ≡ count_by r keys
counts_same p r key [] none alike = refl
counts_same p r key (first ∷ keys) none alike =
    let parts = or_parts (same key first) (is_among key keys) none in
    let here : number_of (p first) ≡ number_of (r first) = ap number_of (alike first parts.0) in
    omega (arith, counts_same p r key keys parts.1 alike, count_by-cons p first keys, count_by-cons r first keys)

-- the one subscription is at most once
pub counts_near : (p r : SubKey → Bool) (key : SubKey) (keys : List SubKey) → AreApart keys → AreAlike p r key → count_by p keys ≤ count_by r keys + 1
counts_near p r key [] apart alike = omega arith
counts_near p r key (first ∷ keys) apart alike =
    elim (cases_Bool (same key first)) [
      | inl is ↦
          let none : is_among key keys ≡ false = subst (λ (k : SubKey). is_among k keys ≡ false) (sym (same_is key first is)) apart.0 in
          omega (arith, counts_same p r key keys none alike, number_of-le (p first), number_of-le (r first), count_by-cons p first keys, count_by-cons r first keys)
      | inr other ↦
          let here : number_of (p first) ≡ number_of (r first) = ap number_of (alike first other) in
          omega (arith, counts_near p r key keys apart.1 alike, count_by-cons p first keys, count_by-cons r first keys)
    ]

-- it passes now
pub counts_more : (p r : SubKey → Bool) (key : SubKey) (keys : List SubKey) → AreApart keys → AreAlike p r key → is_among key keys ≡ true → p key ≡ false → r key ≡ true → count_by r keys ≡ count_by p keys + 1
counts_more p r key [] apart alike there before after = absurd (both_ways false refl there)
counts_more p r key (first ∷ keys) apart alike there before after =
    elim (cases_Bool (same key first)) [
      | inl is ↦
          let e = same_is key first is in
          let none : is_among key keys ≡ false = subst (λ (k : SubKey). is_among k keys ≡ false) (sym e) apart.0 in
          let was : number_of (p first) ≡ 0 = ap number_of (ap p (sym e) ∙ before) in
          let now : number_of (r first) ≡ 1 = ap number_of (ap r (sym e) ∙ after) in
          omega (arith, counts_same p r key keys none alike, count_by-cons p first keys, count_by-cons r first keys)
      | inr other ↦
          let here : number_of (p first) ≡ number_of (r first) = ap number_of (alike first other) in
          let in_rest : is_among key keys ≡ true = rw other at there in
          omega (arith, counts_more p r key keys apart.1 alike in_rest before after, count_by-cons p first keys, count_by-cons r first keys)
    ]

-- it is taken out
pub counts_without : (p r : SubKey → Bool) (key : SubKey) (keys : List SubKey) → AreApart keys → AreAlike p r key → count_by p keys ≤ count_by r (filter (λ s. not (same key s)) keys) + number_of (p key)
counts_without p r key [] apart alike = omega arith
counts_without p r key (first ∷ keys) apart alike =
    elim (cases_Bool (same key first)) [
      | inl is ↦
          let e = same_is key first is in
          let none : is_among key keys ≡ false = subst (λ (k : SubKey). is_among k keys ≡ false) (sym e) apart.0 in
          let one : number_of (p first) ≡ number_of (p key) = ap (λ (k : SubKey). number_of (p k)) (sym e) in
          rw is (omega (arith, one, counts_same p r key keys none alike, ap (count_by r) (all_left key keys none), count_by-cons p first keys))
      | inr other ↦
          let here : number_of (p first) ≡ number_of (r first) = ap number_of (alike first other) in
          rw other (omega (arith, counts_without p r key keys apart.1 alike, count_by-cons p first keys, count_by-cons r first (filter (λ s. not (same key s)) keys)))
    ]
  where
    all_left : (key : SubKey) (keys : List SubKey) → is_among key keys ≡ false → filter (λ s. not (same key s)) keys ≡ keys
    all_left key [] none = refl
    all_left key (first ∷ keys) none =
        let parts = or_parts (same key first) (is_among key keys) none in rw parts.0 (ap (λ (ks : List SubKey). first ∷ ks) (all_left key keys parts.1))
