-- Working: two lists side by side.
use Rattle.std.specs.Prelude.{List, [], ◌∷◌}

-- The lists are as long, and what is at one place of both is so.
abbrev pub Both : {A B : Type 0} → (A → B → Type 0) → List A → List B → Type 0
Both Q [] [] = Unit {0}
Both Q [] (y ∷ ys) = ⊥
Both Q (x ∷ xs) [] = ⊥
Both Q (x ∷ xs) (y ∷ ys) = Q x y × Both Q xs ys
