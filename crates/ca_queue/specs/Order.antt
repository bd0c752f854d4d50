-- Lists of which some items were left out.
use Rattle.std.specs.Prelude.{◌≡◌, ◌⊎◌, List, [], ◌∷◌, Option, Some, None}

module _ {A : Type 0} where
  -- xs is ys with some items left out
  abbrev pub Sub : List A → List A → Type 0
  Sub [] ys = Unit {0}
  Sub (x ∷ xs) [] = ⊥
  Sub (x ∷ xs) (y ∷ ys) = ((x ≡ y) × Sub xs ys) ⊎ Sub (x ∷ xs) ys

  -- the last item, or this one if there is none
  abbrev pub last_from : Option A → List A → Option A
  last_from last [] = last
  last_from last (x ∷ xs) = last_from (Some x) xs

  abbrev pub last_of : List A → Option A
  last_of xs = last_from None xs
