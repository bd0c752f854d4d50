-- The list of all numbers below one.
use Rattle.std.proofs.Common.{◌≡◌, ◌⊎◌, ◌<◌, ◌≤◌, ◌+◌, ◌++◌, ℕ, zero, suc, inl, inr, List, [], ◌∷◌, length, refl, sym, ap, ◌∙◌, arith, slice_index_or, subst}
use Rattle.std.proofs.lemmas.Bool.{cases_lt}
use Rattle.std.proofs.lemmas.List.{get_or_append_left, get_or_push, length_push}
use Rattle.ca_lists.specs.Lists.{AreAbove, Ascends, Has, upto}

pub upto-length : (n : ℕ) → length (upto n) ≡ n
upto-length zero = refl
upto-length (suc n) = (let rest = upto-length n in omega (arith, length_push (upto n) n, rest))

pub upto-at : (n k : ℕ) → k < n → slice_index_or (upto n) k 0 ≡ k
upto-at zero k within = absurd (omega arith)
upto-at (suc n) k within = elim (cases_lt k n) [
  | inl less ↦ get_or_append_left (upto n) (n ∷ []) 0 k (let len = upto-length n in omega (arith, less, len)) ∙ upto-at n k less
  | inr last ↦
      let same : length (upto n) ≡ k = (let len = upto-length n in omega (arith, len, last, within)) in
      get_or_push (upto n) n 0 k same ∙ (let len = upto-length n in omega (arith, len, same))
]

has-left : (xs ys : List ℕ) (i : ℕ) → Has xs i → Has (xs ++ ys) i
has-left [] ys i has = absurd has
has-left (x ∷ xs) ys i has = elim has [ inl here ↦ inl here | inr there ↦ inr (has-left xs ys i there) ]

has-last : (xs : List ℕ) (i : ℕ) → Has (xs ++ i ∷ []) i
has-last [] i = inl refl
has-last (x ∷ xs) i = inr (has-last xs i)

pub upto-has : (n k : ℕ) → k < n → Has (upto n) k
upto-has zero k within = absurd (omega arith)
upto-has (suc n) k within = elim (cases_lt k n) [
  | inl less ↦ has-left (upto n) (n ∷ []) k (upto-has n k less)
  | inr last ↦ (let same : n ≡ k = omega (arith, last, within) in subst (λ (m : ℕ). Has (upto n ++ n ∷ []) m) same (has-last (upto n) n))
]

above-push : (m n : ℕ) (xs : List ℕ) → m < n → AreAbove m xs → AreAbove m (xs ++ n ∷ [])
above-push m n [] less above = (less, tt)
above-push m n (x ∷ xs) less above = (above.0, above-push m n xs less above.1)

-- all are below n
abbrev AreBelow : ℕ → List ℕ → Type 0
AreBelow n [] = Unit
AreBelow n (x ∷ xs) = (x < n) × AreBelow n xs

ascends-push : (xs : List ℕ) (n : ℕ) → AreBelow n xs → Ascends xs → Ascends (xs ++ n ∷ [])
ascends-push [] n below up = (tt, tt)
ascends-push (x ∷ xs) n below up = (above-push x n xs below.0 up.0, ascends-push xs n below.1 up.1)

below-push : (xs : List ℕ) (n : ℕ) → AreBelow n xs → AreBelow (suc n) (xs ++ n ∷ [])
below-push [] n below = (omega arith, tt)
below-push (x ∷ xs) n below = (omega (arith, below.0), below-push xs n below.1)

upto-below : (n : ℕ) → AreBelow n (upto n)
upto-below zero = tt
upto-below (suc n) = below-push (upto n) n (upto-below n)

pub upto-ascends : (n : ℕ) → Ascends (upto n)
upto-ascends zero = tt
upto-ascends (suc n) = ascends-push (upto n) n (upto-below n) (upto-ascends n)
