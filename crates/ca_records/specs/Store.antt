-- Vocabulary: the records that a server keeps, each at a place of its own while it is there.
use Rattle.std.specs.Prelude.{ℕ, ◌≡◌, ◌<◌, ◌≤◌, ◌⊎◌, ◌++◌, List, [], ◌∷◌, Option, Some, None}
use Rattle.std.specs.Prelude.{length, map, option_to_list, slice_set}
use Rattle.std.specs.List.{flat_map}
use Rattle.ca_text.specs.Place.{At}
use Rattle.ca_dbr.specs.DisplayData.{DisplayData}
use Rattle.ca_dbr.specs.Elements.{Elements, count_of}
use Rattle.ca_dbr.specs.Held.{display_of}
use Rattle.ca_records.specs.declared.puts.Stamp.{Stamp}
use Rattle.ca_records.specs.Puts.{Record, new_record, record_named, with_record}
use Rattle.ca_records.specs.Record.{RecordState}
use Rattle.ca_records.specs.Rules.{Rule}

-- The places from 0 on, each with a record or free; the rules of access; and the stamp of the
-- writes that are applied now.
pub record Store : Type 0 where
  pub slots : List (Option Record)
  pub rules : List Rule
  pub stamp : Stamp

-- the records at these places, in order
abbrev pub present : List (Option Record) → List Record
present slots = flat_map option_to_list slots

-- the records of a store, in order of place
abbrev pub records_of : Store → List Record
records_of s = present s.slots

-- the record at a place
abbrev pub HasAt : Store → ℕ → Record → Type 0
HasAt s place r = At s.slots place (Some r)

-- the display data of the record of this name, if it is there and has some
abbrev pub display_in : Option Record → Option DisplayData
display_in None = None
display_in (Some r) = display_of r.state.value

abbrev pub display_at : List Record → List ℕ → Option DisplayData
display_at records name = display_in (record_named records name)

-- some record is at the place
abbrev pub IsThere : Store → ℕ → Type 0
IsThere s place = (r : Record) × HasAt s place r

-- the record at the place may have as many elements
abbrev pub TakesAt : Store → ℕ → Elements → Type 0
TakesAt s place e = (r : Record) × HasAt s place r × (0 < count_of e) × (count_of e ≤ r.state.count)

-- the record of this name is at the place
pub record Finds (s : Store) (name : List ℕ) (place : ℕ) : Type 0 where
  pub r : Record
  pub at : HasAt s place r
  pub named : r.state.name ≡ name
  pub found : record_named (records_of s) name ≡ Some r

-- the store with this at a place: a record, or none
abbrev pub with_slot : ℕ → Option Record → Store → Store
with_slot place slot s = record s { slots = slice_set s.slots place slot }

-- the store with one more place, which has this record
abbrev pub with_place : Record → Store → Store
with_place r s = record s { slots = s.slots ++ Some r ∷ [] }

-- the store that begins with these records, each free, under these rules
abbrev pub new_store : List RecordState → List Rule → Store
new_store states rules = record {
  slots = map (λ (s : RecordState). Some (new_record s)) states;
  rules = rules;
  stamp = record { seconds = 0; nanos = 0 };
}

-- The record at a place became another of the same name, and nothing else changed.
pub record Becomes (old : Store) (place : ℕ) (r next : Record) (new : Store) : Type 0 where
  pub at : HasAt old place r
  pub there : HasAt new place next
  pub name : next.state.name ≡ r.state.name
  pub leaves : new ≡ with_slot place (Some next) old
  -- to the list of records this is whatever makes the one of the other
  pub records : (f : Record → Record) → f r ≡ next
      → records_of new ≡ with_record r.state.name f (records_of old)
  pub same : next ≡ r → new ≡ old

-- A record came to a place: one that was free, or a new one. It is somewhere among the others.
pub record Enters (old : Store) (place : ℕ) (r : Record) (new : Store) : Type 0 where
  pub leaves : (At old.slots place None × (new ≡ with_slot place (Some r) old))
      ⊎ ((place ≡ length old.slots) × (new ≡ with_place r old))
  pub at : HasAt new place r
  -- the others keep their places
  pub stay : (other : ℕ) (q : Record) → HasAt old other q → HasAt new other q
  pub before : List Record
  pub after : List Record
  pub were : records_of old ≡ before ++ after
  pub are : records_of new ≡ before ++ r ∷ after
