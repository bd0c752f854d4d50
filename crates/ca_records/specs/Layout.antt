-- Working: what the fields of a record that is served, and of the store of records, stand for. No
-- clause of a caller needs it.
use Rattle.std.specs.Prelude.{ℕ, ◌≡◌, ◌≢◌, ◌<◌, ◌⊎◌, List, Option, Some, map}
use Rattle.std.specs.List.{AllByRecursion}
use Rattle.ca_text.specs.declared.refusal.Refusal.{Refusal}
use Rattle.ca_text.specs.declared.refusal.Refusal.TheVariants as refusal
use Rattle.ca_text.specs.Place.{At}
use Rattle.ca_dbr.specs.DisplayData.{DisplayData}
use Rattle.ca_dbr.specs.Elements.{Elements, count_of, elements}
use Rattle.ca_dbr.specs.Held.{IsHeldValue, display_of, displayed_by, kind_of}
use Rattle.ca_records.specs.declared.puts.QueuedPut.{QueuedPut}
use Rattle.ca_records.specs.Puts.{Record, WaitingPut}
use Rattle.ca_records.specs.Record.{HoldsValue, RecordState}

-- a put that waits, as contracts see it, for a record with these display data
abbrev pub waiting_put : Option DisplayData → QueuedPut → WaitingPut
waiting_put o w = record { put = w.put; value = displayed_by o (elements w.value) }

-- the puts that wait for a record
abbrev pub waiting_on : RecordState → List QueuedPut → List WaitingPut
waiting_on s ws = map (waiting_put (display_of s.value)) ws

-- the value is one of the record's type that it may have
pub record IsFit (s : RecordState) (e : Elements) : Type 0 where
  pub holds : HoldsValue s.count e
  pub valued : IsHeldValue e
  pub based : kind_of e ≡ kind_of s.value

-- all that waits may be applied
abbrev pub AreFit : RecordState → List WaitingPut → Type 0
AreFit s waiting = AllByRecursion (λ (w : WaitingPut). IsFit s w.value) waiting

-- the map leads from the name of each record to its place, and nowhere else
pub record IsIndexOf (slots : List (Option Record)) (places : List ℕ → Option ℕ) : Type 0 where
  pub found : (name : List ℕ) (place : ℕ) → places name ≡ Some place → (r : Record)
      × At slots place (Some r) × (r.state.name ≡ name)
  pub listed : (place : ℕ) (r : Record) → At slots place (Some r) → places r.state.name ≡ Some place

-- why a record may not have a value by a post
abbrev pub MayNotHave : RecordState → Elements → Refusal → Type 0
MayNotHave s e refusal.BadType = kind_of e ≢ kind_of s.value
MayNotHave s e refusal.BadCount =
    (kind_of e ≡ kind_of s.value) × ((count_of e ≡ 0) ⊎ (s.count < count_of e))
MayNotHave s e other = ⊥
