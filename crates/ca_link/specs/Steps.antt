-- Several calls in a row.
use Rattle.std.specs.Prelude.{ℕ, ◌≡◌, List, [], ◌∷◌}

-- Calls that moved these chunks of bytes, one after another, lead from s to t.
abbrev pub Moves : {S : Type 0} → (S → List ℕ → S → Type 0) → S → List (List ℕ) → S → Type 0
Moves step s [] t = s ≡ t
Moves {S} step s (chunk ∷ chunks) t = (mid : S) × step s chunk mid × Moves step mid chunks t
