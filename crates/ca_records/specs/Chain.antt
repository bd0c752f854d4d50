-- Working: how the free places are chained, and what holds of the fields of a store.
use Rattle.std.specs.Prelude.{ℕ, ◌≡◌, List, [], ◌∷◌, Option, Some, None, map}
use Rattle.ca_text.specs.Place.{At}
use Rattle.ca_records.specs.declared.slot.RecordSlot.{RecordSlot}
use Rattle.ca_records.specs.declared.slot.RecordSlot.TheVariants.{Free, Full}
use Rattle.ca_records.specs.Layout.{IsIndexOf}
use Rattle.ca_records.specs.Puts.{Record, waiting_in}
use Rattle.ca_records.specs.Store.{present}

-- the record at a slot
abbrev pub record_in : RecordSlot → Option Record
record_in (Full r) = Some r
record_in (Free next) = None

-- the slot has a record
abbrev pub IsFull : RecordSlot → Type 0
IsFull (Full r) = Unit {0}
IsFull (Free next) = ⊥

-- From this first free place on, each names the next: these are the free places, each once.
abbrev pub Chain : List RecordSlot → (first : Option ℕ) → List ℕ → Type 0
Chain slots first [] = first ≡ None
Chain slots first (i ∷ rest) =
    (first ≡ Some i) × ((k : ℕ) → At rest k i → ⊥)
    × ((next : Option ℕ) × At slots i (Free next) × Chain slots next rest)

-- The index leads to the records, what is chained is free, and the puts that wait are counted.
pub record IsStored (slots : List RecordSlot) (free : Option ℕ) (places : List ℕ → Option ℕ)
    (waiting : ℕ) : Type 0 where
  pub index : IsIndexOf (map record_in slots) places
  pub freed : List ℕ
  pub chain : Chain slots free freed
  pub counted : waiting ≡ waiting_in (present (map record_in slots))
