-- What is at the places of lists.
use Rattle.std.proofs.Common.{◌≡◌, ℕ, zero, suc, ◌+◌, ◌<◌, ◌≤◌, ◌⊎◌, inl, inr, List, [], ◌∷◌, ◌++◌, length, Option, Some, refl, sym, ap, arith}
use Rattle.std.specs.Prelude.{map, slice_set}
use Rattle.std.proofs.lemmas.Option.{slice_get_within}
use Rattle.ca_text.specs.Place.{At}

pub some_is : {A : Type 0} (x y : A) → let a : Option A = Some x in let b : Option A = Some y in a ≡ b → x ≡ y
some_is x y e = cc

pub At-one : {A : Type 0} (xs : List A) (k : ℕ) (x y : A) → At xs k x → At xs k y → x ≡ y
At-one xs k x y p q = cc

pub At-within : {A : Type 0} (xs : List A) (k : ℕ) (x : A) → At xs k x → k < length xs
At-within xs k x h = slice_get_within xs k x h

-- what is at a place stays there when the list grows
pub At-append : {A : Type 0} (xs ys : List A) (k : ℕ) (x : A) → At xs k x → At (xs ++ ys) k x
At-append [] ys k x h = absurd cc
At-append (z ∷ xs) ys zero x h = h
At-append (z ∷ xs) ys (suc k) x h = At-append xs ys k x h

-- what is after a list is at its length and on
pub At-after : {A : Type 0} (xs ys : List A) (k : ℕ) (x : A) → At ys k x → At (xs ++ ys) (length xs + k) x
At-after [] ys k x h = (let z : 0 + k ≡ k = omega arith in rw z h)
At-after (y ∷ xs) ys k x h = (let z : suc (length xs) + k ≡ suc (length xs + k) = omega arith in rw z (At-after xs ys k x h))

-- what is in two lists in a row is in the one or in the other
pub At-parts : {A : Type 0} (xs ys : List A) (k : ℕ) (x : A) → At (xs ++ ys) k x → At xs k x ⊎ ((l : ℕ) × (k ≡ length xs + l) × At ys l x)
At-parts [] ys k x h = inr (k, omega arith, h)
At-parts (z ∷ xs) ys zero x h = inl h
At-parts (z ∷ xs) ys (suc k) x h =
    elim (At-parts xs ys k x h) [
      | inl old ↦ inl old
      | inr new ↦ inr (new.0, (let e : k ≡ length xs + new.0 = new.1 in omega arith), new.2)
    ]

-- what is in a list that grew by one stood there, or is the new one
pub At-snoc : {A : Type 0} (xs : List A) (y : A) (k : ℕ) (x : A) → At (xs ++ y ∷ []) k x → At xs k x ⊎ ((k ≡ length xs) × (x ≡ y))
At-snoc [] y zero x h = inr (refl, cc)
At-snoc [] y (suc k) x h = absurd cc
At-snoc (z ∷ xs) y zero x h = inl h
At-snoc (z ∷ xs) y (suc k) x h =
    elim (At-snoc xs y k x h) [
      | inl old ↦ inl old
      | inr new ↦ inr (ap (λ (n : ℕ). suc n) new.0, new.1)
    ]

pub At-last : {A : Type 0} (xs : List A) (y : A) → At (xs ++ y ∷ []) (length xs) y
At-last [] y = refl
At-last (z ∷ xs) y = At-last xs y

-- what stood in a list before it grew
pub At-back : {A : Type 0} (xs ys : List A) (k : ℕ) (x : A) → At (xs ++ ys) k x → k < length xs → At xs k x
At-back [] ys k x h lt = absurd (omega arith)
At-back (z ∷ xs) ys zero x h lt = h
At-back (z ∷ xs) ys (suc k) x h lt = At-back xs ys k x h (omega arith)

pub At-map : {A B : Type 0} (f : A → B) (xs : List A) (k : ℕ) (x : A) → At xs k x → At (map f xs) k (f x)
At-map f [] k x h = absurd cc
At-map f (z ∷ xs) zero x h = ap (λ (v : _). Some (f v)) (some_is z x h)
At-map f (z ∷ xs) (suc k) x h = At-map f xs k x h

-- what is in a mapped list is the image of what stood there
pub At-mapped : {A B : Type 0} (f : A → B) (xs : List A) (k : ℕ) (y : B) → At (map f xs) k y → (x : A) × At xs k x × (y ≡ f x)
At-mapped f [] k y h = absurd cc
At-mapped f (z ∷ xs) zero y h = (z, refl, sym (some_is (f z) y h))
At-mapped f (z ∷ xs) (suc k) y h = At-mapped f xs k y h

pub At-or : {A : Type 0} (xs : List A) (j : ℕ) → ((x : A) × At xs j x) ⊎ (length xs ≤ j)
At-or [] j = inr (omega arith)
At-or (x ∷ xs) zero = inl (x, refl)
At-or (x ∷ xs) (suc j) = elim (At-or xs j) [ inl h ↦ inl h | inr le ↦ inr (let l : length xs ≤ j = le in omega arith) ]

-- what is in a list after a write was written there, or stood there, at another place
pub At-set : {A : Type 0} (xs : List A) (i : ℕ) (y : A) (k : ℕ) (x : A) → At (slice_set xs i y) k x → ((k ≡ i) × (x ≡ y)) ⊎ (At xs k x × (k ≡ i → ⊥))
At-set [] i y k x h = absurd cc
At-set (z ∷ xs) zero y zero x h = inl (refl, sym (some_is y x h))
At-set (z ∷ xs) zero y (suc k) x h = inr (h, λ e. omega arith)
At-set (z ∷ xs) (suc i) y zero x h = inr (h, λ e. omega arith)
At-set (z ∷ xs) (suc i) y (suc k) x h =
    elim (At-set xs i y k x h) [
      | inl new ↦ inl (ap (λ (n : ℕ). suc n) new.0, new.1)
      | inr old ↦ inr (old.0, λ e. old.1 (let d : suc k ≡ suc i = e in omega arith))
    ]

pub At-set-other : {A : Type 0} (xs : List A) (i k : ℕ) (x y : A) → At xs k x → (k ≡ i → ⊥) → At (slice_set xs i y) k x
At-set-other [] i k x y h other = absurd cc
At-set-other (z ∷ xs) zero zero x y h other = absurd (other refl)
At-set-other (z ∷ xs) zero (suc k) x y h other = h
At-set-other (z ∷ xs) (suc i) zero x y h other = h
At-set-other (z ∷ xs) (suc i) (suc k) x y h other = At-set-other xs i k x y h (λ e. other (ap (λ (n : ℕ). suc n) e))
