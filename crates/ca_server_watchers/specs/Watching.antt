-- Working: the circuits that watch records, each by its handle.
use Rattle.std.specs.Prelude.{ℕ, ◌≡◌, ◌<◌, ◌⊎◌, false, List, [], Option, None, map, slice_get}
use Rattle.std.specs.Prelude.{unwrap_or}
use Rattle.std.specs.Map.{lookup}
use Rattle.std.specs.Str.{bytes_eq}
use Rattle.ca_arena.specs.declared.handle.Handle.{Handle}
use Rattle.ca_text.specs.Place.{At}

-- the names of records, each with the circuits that watch it
abbrev pub Watched : Type 0
Watched = List (List ℕ × List Handle)

-- the line of the record of this name, if it has one
abbrev pub line_of : Watched → List ℕ → Option (List Handle)
line_of w name = lookup (bytes_eq name) w

-- the circuits that watch the record of this name
abbrev pub watching : Watched → List ℕ → List Handle
watching w name = unwrap_or (line_of w name) []

-- it is one of these
abbrev pub IsAmong : List Handle → Handle → Type 0
IsAmong hs h = (k : ℕ) × At hs k h

-- ---- in the maps

abbrev pub handle_of : ℕ × ℕ → Handle
handle_of e = record { index = e.0; generation = e.1 }

abbrev pub handles_in : List (ℕ × ℕ) → List Handle
handles_in es = map handle_of es

abbrev pub lines_in : {K : Type 0} → (K → List ℕ) → List (K × List Handle) → Watched
lines_in bytes es = map (λ e. (bytes e.0, e.1)) es

-- ---- what calls leave

-- no two are of one index
abbrev pub AreApart : List Handle → Type 0
AreApart hs = (i j : ℕ) (g h : Handle) → At hs i g → At hs j h → g.index ≡ h.index → i ≡ j

-- This one is in the list now, and all others are that are not of its index. No other came.
pub record Joins (h : Handle) (old new : List Handle) : Type 0 where
  pub own : IsAmong new h
  pub others : (g : Handle) → IsAmong old g → (g.index ≡ h.index → ⊥) → IsAmong new g
  pub only : (g : Handle) → IsAmong new g → (g ≡ h) ⊎ IsAmong old g

-- The one at a place was taken out: it is no longer there, the others are, and those
-- before it at their places.
pub record Leaves (k : ℕ) (old new : List Handle) : Type 0 where
  pub before : (i : ℕ) → i < k → slice_get new i ≡ slice_get old i
  pub others : (i : ℕ) (g : Handle) → At old i g → (i ≡ k → ⊥) → IsAmong new g
  pub gone : (g : Handle) → At old k g → IsAmong new g → ⊥

-- all other records have the lines that they had
abbrev pub OthersStay : List ℕ → Watched → Watched → Type 0
OthersStay name old new =
    (other : List ℕ) → bytes_eq other name ≡ false → line_of new other ≡ line_of old other

-- This circuit watches the record of this name.
pub record Watches (name : List ℕ) (h : Handle) (old new : Watched) : Type 0 where
  pub joins : Joins h (watching old name) (watching new name)
  pub stay : OthersStay name old new

-- The one at a place no longer watches the record of this name.
pub record LeavesAt (name : List ℕ) (k : ℕ) (old new : Watched) : Type 0 where
  pub leaves : Leaves k (watching old name) (watching new name)
  pub stay : OthersStay name old new

-- The record of this name has no line: nobody watches it.
pub record Clears (name : List ℕ) (old new : Watched) : Type 0 where
  pub gone : line_of new name ≡ None
  pub stay : OthersStay name old new
