-- Vocabulary: ascending lists of indices, one for each owner, by the owner's index.
use Prim.Native.Nat.{zero, suc}
use Rattle.std.specs.Prelude.{ℕ, ◌++◌, ◌≡◌, ◌⊎◌, ◌<◌, ◌≤◌, ◌==◌, List, [], ◌∷◌, Result, Ok, Err}
use Rattle.std.specs.Prelude.{filter, if◌then◌else◌, length, nat_lt, not, slice_index_or}

-- it is one of these
abbrev pub Has : List ℕ → ℕ → Type 0
Has [] i = ⊥
Has (x ∷ xs) i = (x ≡ i) ⊎ Has xs i

-- all are above this one
abbrev pub AreAbove : ℕ → List ℕ → Type 0
AreAbove n [] = Unit
AreAbove n (x ∷ xs) = (n < x) × AreAbove n xs

-- each is above those before it
abbrev pub Ascends : List ℕ → Type 0
Ascends [] = Unit
Ascends (x ∷ xs) = AreAbove x xs × Ascends xs

-- the list of an owner
abbrev pub list_of : List (List ℕ) → ℕ → List ℕ
list_of lists owner = slice_index_or lists owner []

-- the list with this one, in order
abbrev pub added : ℕ → List ℕ → List ℕ
added i [] = i ∷ []
added i (x ∷ xs) = if nat_lt i x then i ∷ x ∷ xs else (if x == i then x ∷ xs else x ∷ added i xs)

-- the list without it
abbrev pub without : ℕ → List ℕ → List ℕ
without i xs = filter (λ (x : ℕ). not (x == i)) xs

-- It is at this place; or it is at none, and would go to this one.
abbrev pub IsSought : ℕ → List ℕ → Result ℕ ℕ → Type 0
IsSought i xs (Ok k) = (k < length xs) × (slice_index_or xs k 0 ≡ i)
IsSought i xs (Err k) =
    (k ≤ length xs)
    × ((j : ℕ) → j < k → slice_index_or xs j 0 < i)
    × ((j : ℕ) → k ≤ j → j < length xs → i < slice_index_or xs j 0)

-- those below n
abbrev pub upto : ℕ → List ℕ
upto zero = []
upto (suc n) = upto n ++ n ∷ []
