-- What files give.
use Rattle.std.specs.Prelude.{ℕ, ◌≡◌, List, Option, Result, Ok, Err, IfSome}

-- These are the bytes that a file still gave, all of them if they are known.
abbrev pub Gives : {F E : Type 0} → (F → Option (List ℕ)) → Result F E → List ℕ → Type 0
Gives remaining (Ok file) bytes = IfSome (remaining file) (λ all. bytes ≡ all)
Gives remaining (Err _) bytes = ⊥
