-- Ascending lists: what is put in or taken out in order.
use Rattle.std.proofs.Common.{◌≡◌, ◌≢◌, ◌⊎◌, ◌<◌, ◌≤◌, ◌+◌, ◌++◌, ℕ, zero, suc, ◌==◌, inl, inr, Bool, true, false, List, [], ◌∷◌, length, Result, Ok, Err, filter, if◌then◌else◌, not, nat_lt, refl, sym, ap, ◌∙◌, subst, arith, slice_index_or, take, drop}
use Rattle.std.specs.List.{insert, remove}
use Rattle.std.proofs.lemmas.Bool.{cases_Bool, cases_lt, eq-eqb, eqb-false, le-ltb, lt-ltb, ltb-false, ltb-true, ne_eqb}
use Rattle.ca_lists.specs.Lists.{AreAbove, Ascends, Has, IsSought, added, without}

-- ---- what is above

above-lower : (m n : ℕ) (xs : List ℕ) → m ≤ n → AreAbove n xs → AreAbove m xs
above-lower m n [] less above = tt
above-lower m n (x ∷ xs) less above = (omega (arith, above.0), above-lower m n xs less above.1)

above-at : (n : ℕ) (xs : List ℕ) (k : ℕ) → AreAbove n xs → k < length xs → n < slice_index_or xs k 0
above-at n [] k above within = absurd (omega arith)
above-at n (x ∷ xs) zero above within = above.0
above-at n (x ∷ xs) (suc k) above within = above-at n xs k above.1 (omega arith)

above-added : (n i : ℕ) (xs : List ℕ) → n < i → AreAbove n xs → AreAbove n (added i xs)
above-added n i [] less above = (less, tt)
above-added n i (x ∷ xs) less above = elim (cases_Bool (nat_lt i x)) [
  | inl before ↦ rw before (less, above)
  | inr not_before ↦ elim (cases_Bool (x == i)) [
    | inl same ↦ rw (not_before, same) above
    | inr other ↦ rw (not_before, other) (above.0, above-added n i xs less above.1)
  ]
]

above-filter : (n : ℕ) (p : ℕ → Bool) (xs : List ℕ) → AreAbove n xs → AreAbove n (filter p xs)
above-filter n p [] above = tt
above-filter n p (x ∷ xs) above = elim (cases_Bool (p x)) [
  | inl passes ↦ rw passes (above.0, above-filter n p xs above.1)
  | inr fails ↦ rw fails (above-filter n p xs above.1)
]

-- ---- the elements of a list that ascends

pub rises : (xs : List ℕ) (i j : ℕ) → Ascends xs → i ≤ j → j < length xs → slice_index_or xs i 0 ≤ slice_index_or xs j 0
rises [] i j up less within = absurd (omega arith)
rises (x ∷ xs) zero zero up less within = omega arith
rises (x ∷ xs) zero (suc j) up less within =
    let above = above-at x xs j up.0 (omega arith) in
    omega (arith, above)
rises (x ∷ xs) (suc i) zero up less within = absurd (omega arith)
rises (x ∷ xs) (suc i) (suc j) up less within = rises xs i j up.1 (omega arith) (omega arith)

pub ascends-filter : (p : ℕ → Bool) (xs : List ℕ) → Ascends xs → Ascends (filter p xs)
ascends-filter p [] up = tt
ascends-filter p (x ∷ xs) up = elim (cases_Bool (p x)) [
  | inl passes ↦ rw passes (above-filter x p xs up.0, ascends-filter p xs up.1)
  | inr fails ↦ rw fails (ascends-filter p xs up.1)
]

-- ---- one is put in

pub ascends-added : (i : ℕ) (xs : List ℕ) → Ascends xs → Ascends (added i xs)
ascends-added i [] up = (tt, tt)
ascends-added i (x ∷ xs) up = elim (cases_Bool (nat_lt i x)) [
  | inl before ↦
      let less : i < x = ltb-less i x before in
      rw before ((less, above-lower i x xs (omega (arith, less)) up.0), up)
  | inr not_before ↦ elim (cases_Bool (x == i)) [
    | inl same ↦ rw (not_before, same) up
    | inr other ↦
        let less : x < i = ltb-more i x not_before other in
        rw (not_before, other) (above-added x i xs less up.0, ascends-added i xs up.1)
  ]
]
  where
    ltb-less : (a b : ℕ) → nat_lt a b ≡ true → a < b
    ltb-less a b h = ltb-true a b h

    ltb-more : (a b : ℕ) → nat_lt a b ≡ false → (b == a) ≡ false → b < a
    ltb-more a b h other =
        let at_least = ltb-false a b h in
        let apart = eqb-false b a other in
        omega (arith, at_least, apart)

pub insert-added : (xs : List ℕ) (i k : ℕ) → k ≤ length xs → ((j : ℕ) → j < k → slice_index_or xs j 0 < i) → ((j : ℕ) → k ≤ j → j < length xs → i < slice_index_or xs j 0) → insert xs k i ≡ added i xs
insert-added [] i zero within below above = refl
insert-added [] i (suc k) within below above = absurd (omega arith)
insert-added (x ∷ xs) i zero within below above =
    let less : i < x = above 0 (omega arith) (omega arith) in
    rw (lt-ltb i x less) refl
insert-added (x ∷ xs) i (suc k) within below above =
    let more : x < i = below 0 (omega arith) in
    let apart : x ≡ i → ⊥ = λ same. omega (arith, more, same) in
    let rest = insert-added xs i k (omega arith) (λ j less. below (suc j) (omega (arith, less))) (λ j past inside. above (suc j) (omega (arith, past)) (omega (arith, inside))) in
    rw (le-ltb i x (omega (arith, more)), ne_eqb x i apart) (ap (λ (ys : List ℕ). x ∷ ys) rest)

-- one that is there is not put in again
pub added-there : (xs : List ℕ) (i k : ℕ) → Ascends xs → k < length xs → slice_index_or xs k 0 ≡ i → added i xs ≡ xs
added-there [] i k up within here = absurd (omega arith)
added-there (x ∷ xs) i zero up within here =
    rw (le-ltb i x (omega (arith, here)), eq-eqb x i here) refl
added-there (x ∷ xs) i (suc k) up within here =
    let above : x < slice_index_or xs k 0 = above-at x xs k up.0 (omega arith) in
    let apart : x ≡ i → ⊥ = λ same. omega (arith, above, same, here) in
    rw (le-ltb i x (omega (arith, above, here)), ne_eqb x i apart) (ap (λ (ys : List ℕ). x ∷ ys) (added-there xs i k up.1 (omega arith) here))

-- ---- one is taken out

without-above : (i : ℕ) (xs : List ℕ) → AreAbove i xs → without i xs ≡ xs
without-above i [] above = refl
without-above i (x ∷ xs) above =
    let apart : x ≡ i → ⊥ = λ same. omega (arith, above.0, same) in
    rw (ne_eqb x i apart) (ap (λ (ys : List ℕ). x ∷ ys) (without-above i xs above.1))

pub remove-without : (xs : List ℕ) (i k : ℕ) → Ascends xs → k < length xs → slice_index_or xs k 0 ≡ i → remove xs k ≡ without i xs
remove-without [] i k up within here = absurd (omega arith)
remove-without (x ∷ xs) i zero up within here =
    rw (eq-eqb x i here) (sym (without-above i xs (subst (λ (n : ℕ). AreAbove n xs) here up.0)))
remove-without (x ∷ xs) i (suc k) up within here =
    let above : x < slice_index_or xs k 0 = above-at x xs k up.0 (omega arith) in
    let apart : x ≡ i → ⊥ = λ same. omega (arith, above, same, here) in
    rw (ne_eqb x i apart) (ap (λ (ys : List ℕ). x ∷ ys) (remove-without xs i k up.1 (omega arith) here))

pub without-absent : (xs : List ℕ) (i : ℕ) → ((j : ℕ) → j < length xs → slice_index_or xs j 0 ≡ i → ⊥) → without i xs ≡ xs
without-absent [] i none = refl
without-absent (x ∷ xs) i none =
    rw (ne_eqb x i (none 0 (omega arith))) (ap (λ (ys : List ℕ). x ∷ ys) (without-absent xs i (λ j within. none (suc j) (omega (arith, within)))))

-- a place that it would go to says that it is at none
pub absent-at : (xs : List ℕ) (i k : ℕ) → ((j : ℕ) → j < k → slice_index_or xs j 0 < i) → ((j : ℕ) → k ≤ j → j < length xs → i < slice_index_or xs j 0) → (j : ℕ) → j < length xs → slice_index_or xs j 0 ≡ i → ⊥
absent-at xs i k below above j within same = elim (cases_lt j k) [
  | inl less ↦ (let lower = below j less in omega (arith, lower, same))
  | inr past ↦ (let higher = above j past within in omega (arith, higher, same))
]
