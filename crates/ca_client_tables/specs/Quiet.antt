-- Working: before which moment no search is due. No clause of a caller needs it.
use Rattle.std.specs.Prelude.{ℕ, ◌≤◌, List, [], ◌∷◌, Option, None, Some}
use Rattle.ca_search.specs.Clock.{Clock}
use Rattle.ca_search.specs.Searches as search

-- the searches that a client keeps, under their CIDs, and for how many more there is room
pub record Kept : Type 0 where
  pub entries : List (ℕ × search.Channel)
  pub room : ℕ

-- no search by this clock is due before this moment; a paused one is never due
abbrev pub NotBefore : ℕ → Option Clock → Type 0
NotBefore quiet None = Unit
NotBefore quiet (Some clock) = quiet ≤ clock.due

-- no search for this channel is
abbrev pub IsQuiet : ℕ → search.Channel → Type 0
IsQuiet quiet c = NotBefore quiet c.clock

-- no search of these is
abbrev pub AreQuiet : ℕ → List (ℕ × search.Channel) → Type 0
AreQuiet quiet [] = Unit
AreQuiet quiet (e ∷ es) = IsQuiet quiet e.1 × AreQuiet quiet es
