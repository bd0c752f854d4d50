-- Working: one element that is read over the value of a record.
use Rattle.std.specs.Prelude.{ℕ, ◌≡◌, ◌≤◌, ◌&&◌, Bool, true, false, List, None, Some, is_some}
use Rattle.std.specs.Prelude.{length}
use Rattle.ca_dbr.specs.declared.value.Meta.{Meta}
use Rattle.ca_dbr.specs.Elements.{Elements, base_of}
use Rattle.ca_dbr.specs.Held.{display_of, displayed_by}
use Rattle.ca_dbr.specs.Reading.{CanReadOver, ReadsElements, least_size}
use Rattle.ca_dbr.specs.Types.{base_number}
use Rattle.ca_records.specs.declared.puts.Put.{Put}
use Rattle.ca_records.specs.declared.puts.Stamp.{Stamp}
use Rattle.ca_records.specs.Puts.{Record, with_write}
use Rattle.ca_records.specs.Record.{RecordState}

-- these bytes begin with one element of the record's type, which has this number
pub record IsOne (s : RecordState) (number : ℕ) (bytes : List ℕ) (e : Elements) : Type 0 where
  pub typed : base_number (base_of s.value) ≡ number
  pub long : least_size (base_of s.value) 1 ≤ length bytes
  pub reads : ReadsElements (base_of s.value) 1 bytes e
  pub some : 1 ≤ s.count

-- an element in place of this value, whose display data stay
abbrev pub in_place_of : Elements → Elements → Elements
in_place_of old e = displayed_by (display_of old) e

-- the record's value is that element, with the metadata that it has; or that cannot be, and all
-- stays
abbrev pub TakesOver : (number : ℕ) → List ℕ → (Elements → Meta) → RecordState → Bool → RecordState
    → Type 0
TakesOver number bytes meta old true new =
    (e : Elements) × IsOne old number bytes e
    × (new ≡ record old { value = in_place_of old.value e; meta = meta (in_place_of old.value e) })
TakesOver number bytes meta old false new = (CanReadOver number bytes old.value → ⊥) × (new ≡ old)

-- the same by a write, which neither waits nor makes the record busy
abbrev pub WritesOver : Stamp → Record → (is_put : Bool) → (number : ℕ) → List ℕ → Bool → Record
    → Type 0
WritesOver s r is_put number bytes true next =
    (e : Elements) × IsOne r.state number bytes e × ((is_put && is_some r.busy) ≡ false)
    × ((is_put && r.state.slow) ≡ false)
    × (next ≡ with_write (in_place_of r.state.value e) s r)
WritesOver s r is_put number bytes false next =
    ((is_put && is_some r.busy) ≡ false → (is_put && r.state.slow) ≡ false
    → CanReadOver number bytes r.state.value → ⊥) × (next ≡ r)

-- the same by a put with notification, which makes a slow record busy
abbrev pub PutsOver : Stamp → Record → Put → (number : ℕ) → List ℕ → Bool → Record → Type 0
PutsOver s r p number bytes true next =
    (e : Elements) × IsOne r.state number bytes e × (r.busy ≡ None) × (r.state.slow ≡ true)
    × (next ≡ record (with_write (in_place_of r.state.value e) s r) { busy = Some p })
PutsOver s r p number bytes false next =
    (r.busy ≡ None → r.state.slow ≡ true → CanReadOver number bytes r.state.value → ⊥) × (next ≡ r)
