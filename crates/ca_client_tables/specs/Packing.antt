-- Working: searches put into datagrams, one after another. No clause of a caller needs it.
use Rattle.std.specs.Prelude.{ℕ, ◌≡◌, ◌++◌, Bool, true, false, List, ◌∷◌, Result, Ok, Err, length}
use Rattle.std.specs.Prelude.{nat_le}
use Rattle.std.specs.declared.alloc.AllocError.{AllocError}
use Rattle.ca_text.specs.Limits.{datagram_limit}
use Rattle.ca_dgram.specs.Search.{searched}
use Rattle.ca_search.specs.Searches.{Wanted}
use Rattle.ca_model.specs.ClientEnds.{packed}

-- the datagram has room for this search
abbrev pub has_room : Wanted → List ℕ → Bool
has_room w bytes = nat_le (length (searched bytes w.cid w.name)) datagram_limit

-- A search was put into a datagram, if that has room for it.
abbrev pub PutsSearch : Wanted → List ℕ → Result Bool AllocError → List ℕ → Type 0
PutsSearch w old (Ok true) new = (has_room w old ≡ true) × (new ≡ searched old w.cid w.name)
PutsSearch w old (Ok false) new = (has_room w old ≡ false) × (new ≡ old)
PutsSearch w old (Err _) new = Unit {0}

-- It was put into the last datagram, or that is full.
abbrev pub AddsSearch : Wanted → List (List ℕ) → List ℕ → List (List ℕ) → List ℕ → Type 0
AddsSearch w full last more next =
    (ws : List Wanted) → full ++ packed last (w ∷ ws) ≡ more ++ packed next ws
