-- When a channel is searched. Moments are milliseconds; a sum of them stops at the greatest u64.
use Rattle.std.specs.Prelude.{ℕ, ◌+◌, ◌*◌, List, [], ◌∷◌, min}
use Rattle.ca_text.specs.Waits.{latest}

-- the wait after the next search, and the moment from which that is due
pub record Clock : Type 0 where
  pub wait : ℕ
  pub due : ℕ

-- of a channel that is searched from now on: due at once
abbrev pub fresh : ℕ → Clock
fresh now = record { wait = 32; due = now }

-- the clock after a search that was made now
abbrev pub searched_at : Clock → ℕ → Clock
searched_at c now = record { wait = min (2 * c.wait) 300000; due = min (now + c.wait) latest }

-- the clock after searches of these moments
abbrev pub run : Clock → List ℕ → Clock
run c [] = c
run c (now ∷ moments) = run (searched_at c now) moments
