-- What is in an ascending list once one is put in or taken out.
use Rattle.std.proofs.Common.{◌≡◌, ◌≢◌, ◌⊎◌, ◌<◌, ◌==◌, ℕ, inl, inr, Bool, true, false, List, [], ◌∷◌, filter, not, nat_lt, refl, sym, ap, ◌∙◌, subst, arith}
use Rattle.std.proofs.lemmas.Bool.{cases_Bool, eqb-true, ne_eqb}
use Rattle.ca_lists.specs.Lists.{AreAbove, Has, added, without}

pub has-own : (i : ℕ) (xs : List ℕ) → Has (added i xs) i
has-own i [] = inl refl
has-own i (x ∷ xs) = elim (cases_Bool (nat_lt i x)) [
  | inl before ↦ rw before (inl refl)
  | inr not_before ↦ elim (cases_Bool (x == i)) [
    | inl same ↦ rw (not_before, same) (inl (eqb-true x i same))
    | inr other ↦ rw (not_before, other) (inr (has-own i xs))
  ]
]

pub has-added : (i j : ℕ) (xs : List ℕ) → Has xs j → Has (added i xs) j
has-added i j [] has = absurd has
has-added i j (x ∷ xs) has = elim (cases_Bool (nat_lt i x)) [
  | inl before ↦ rw before (inr has)
  | inr not_before ↦ elim (cases_Bool (x == i)) [
    | inl same ↦ rw (not_before, same) has
    | inr other ↦ rw (not_before, other) elim has [ inl here ↦ inl here | inr there ↦ inr (has-added i j xs there) ]
  ]
]

pub has-without : (i j : ℕ) (xs : List ℕ) → j ≢ i → Has xs j → Has (without i xs) j
has-without i j [] other has = absurd has
has-without i j (x ∷ xs) other has = elim has [
  | inl here ↦ rw (ne_eqb x i (λ same. other (sym here ∙ same))) (inl here)
  | inr there ↦ (let rest = has-without i j xs other there in elim (cases_Bool (x == i)) [ inl same ↦ rw same rest | inr apart ↦ rw apart (inr rest) ])
]

-- what is above a number is not that
pub none-above : (i : ℕ) (xs : List ℕ) → AreAbove i xs → Has xs i → ⊥
none-above i [] above has = has
none-above i (x ∷ xs) above has = elim has [ inl here ↦ omega (arith, above.0, here) | inr there ↦ none-above i xs above.1 there ]
