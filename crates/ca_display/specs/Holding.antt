-- Working: one element that is read over what a record holds.
use Rattle.std.specs.Prelude.{ℕ, ◌≡◌, Bool, true, false, List}
use Rattle.ca_dbr.specs.Elements.{Elements, base_of}
use Rattle.ca_dbr.specs.Held.{display_of, displayed_by}
use Rattle.ca_dbr.specs.Reading.{CanReadOver, ReadsElements}

-- One element of the plain type of this number, at the front of these bytes, came in place of
-- another of that type, whose display data stay; or that cannot be, and all stays.
abbrev pub HoldsOver : (number : ℕ) → List ℕ → (old : Elements) → Bool → (new : Elements) → Type 0
HoldsOver number bytes old true new =
    CanReadOver number bytes old
    × ((e : Elements) × ReadsElements (base_of old) 1 bytes e
    × (new ≡ displayed_by (display_of old) e))
HoldsOver number bytes old false new = (CanReadOver number bytes old → ⊥) × (new ≡ old)
