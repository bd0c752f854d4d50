-- A text is separated at its first separator.
use Rattle.std.proofs.Common.{◌≡◌, Bor, Option, Some, ℕ, zero, suc, ◌+◌, ◌-◌, ◌<◌, Bool, true, false, cond, eqb, List, [], ◌∷◌, length, get_or, take, drop, refl, ap, ◌∙◌, arith}
use Rattle.std.proofs.lemmas.List.{take_all, length-drop}
use Rattle.std.specs.Prelude.{option_map}
use Rattle.ca_script.specs.Grammar.{longer, parted, pieces_left}

no-true : (b : Bool) → (b ≡ true → ⊥) → b ≡ false
no-true true h = absurd (h refl)
no-true false h = refl

pub parted-whole : (s : ℕ) (text : List ℕ) → ((k : ℕ) → k < length text → eqb (get_or text k 0) s ≡ true → ⊥) → parted s text ≡ text ∷ []
unfolding parted
parted-whole s [] h = refl
parted-whole s (x ∷ xs) h =
    let here : eqb x s ≡ false = no-true (eqb x s) (h 0 (omega arith)) in
    let rest : parted s xs ≡ xs ∷ [] = parted-whole s xs (λ k l. h (suc k) (omega arith)) in
    rw (here, rest) refl

pub parted-at : (s : ℕ) (text : List ℕ) (k : ℕ) → k < length text → ((i : ℕ) → i < k → eqb (get_or text i 0) s ≡ true → ⊥) → eqb (get_or text k 0) s ≡ true → parted s text ≡ take k text ∷ parted s (drop (suc k) text)
unfolding parted
parted-at s [] k l h e = absurd (omega (arith, l))
parted-at s (x ∷ xs) zero l h e = rw e refl
parted-at s (x ∷ xs) (suc k) l h e =
    let here : eqb x s ≡ false = no-true (eqb x s) (h 0 (omega arith)) in
    let rest : parted s xs ≡ take k xs ∷ parted s (drop (suc k) xs) = parted-at s xs k (omega (arith, l)) (λ i m. h (suc i) (omega arith)) e in
    rw (here, rest) refl

-- what is left after a place, as a slice gives it
pub left-behind : (text : List ℕ) (k : ℕ) → take (length text - k) (drop k text) ≡ drop k text
left-behind text k = take_all (length text - k) (drop k text) (omega (arith, length-drop k text))

pub parted-there : (s : ℕ) (text : List ℕ) (k : ℕ) → k < length text → ((i : ℕ) → i < k → eqb (get_or text i 0) s ≡ true → ⊥) → eqb (get_or text k 0) s ≡ true → parted s text ≡ take k text ∷ parted s (drop (k + 1) text)
parted-there s text k l h e =
    let next : suc k ≡ k + 1 = omega arith in
    rw (← next) (parted-at s text k l h e)

longer-is-some : (x : ℕ) (pieces : List (List ℕ)) → longer x pieces ≡ [] → ⊥
longer-is-some x [] h = absurd (omega (arith, ap length h))
longer-is-some x (piece ∷ pieces) h = absurd (omega (arith, ap length h))

piece-is-some : (b : Bool) (x : ℕ) (pieces : List (List ℕ)) → cond b ([] ∷ pieces) (longer x pieces) ≡ [] → ⊥
piece-is-some true x pieces h = absurd (omega (arith, ap length h))
piece-is-some false x pieces h = longer-is-some x pieces h

-- a text has a piece
pub parted-is-some : (s : ℕ) (text : List ℕ) → parted s text ≡ [] → ⊥
unfolding parted
parted-is-some s [] h = absurd (omega (arith, ap length h))
parted-is-some s (x ∷ xs) h = piece-is-some (eqb x s) x (parted s xs) h

pub some-left : (s : ℕ) (rest : Option (Bor (List ℕ))) (text : Bor (List ℕ)) (pieces : List (List ℕ)) → rest ≡ Some text → pieces_left s (option_map (λ (r : Bor (List ℕ)). r.now) rest) ≡ pieces → pieces ≡ [] → ⊥
some-left s rest text pieces is view h = parted-is-some s text.now ((rw is at view) ∙ h)
