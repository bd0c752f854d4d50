-- Working: the log of a server's life: each write in it once, and as it came.
use Rattle.std.specs.Prelude.{ℕ, ◌≡◌, ◌<◌, ◌⊎◌, Bool, List, Option, Some, None, length, take}
use Rattle.ca_text.specs.Place.{At}
use Rattle.ca_dbr.specs.Elements.{Elements}
use Rattle.ca_dbr.specs.Held.{kind_of}
use Rattle.ca_records.specs.Record.{RecordState}
use Rattle.ca_model.specs.Speech.{In, Stored}
use Rattle.ca_model.specs.History.{Circuit, Entry, Added, Applied, Finished, Removed, Waits}
use Rattle.ca_model.specs.History.{Withdrawn}
use Rattle.ca_model.specs.Channels.{IsBusyUntil, IsHandledIn, IsTaken}
use Rattle.ca_model.specs.World.{PutPlace}

-- ---- what is told of the write at a place

-- where the write came that an entry reports
abbrev pub write_in : Entry → Option PutPlace
write_in (Waits n k r v) = Some (record { circuit = n; place = k })
write_in (Applied n k r v busies) = Some (record { circuit = n; place = k })
write_in (Finished n k) = Some (record { circuit = n; place = k })
write_in (Withdrawn n k) = Some (record { circuit = n; place = k })
write_in entry = None

-- no entry tells of the write at this place
abbrev pub IsUntold : List Entry → PutPlace → Type 0
IsUntold y p = (e : Entry) → In y e → write_in e ≡ Some p → ⊥

-- it was applied; it was withdrawn; it was finished
abbrev pub IsApplied : List Entry → PutPlace → Type 0
IsApplied y p =
    (r : ℕ) × (v : Stored) × (busies : Bool) × In y (Applied p.circuit p.place r v busies)

abbrev pub IsWithdrawn : List Entry → PutPlace → Type 0
IsWithdrawn y p = In y (Withdrawn p.circuit p.place)

abbrev pub IsFinished : List Entry → PutPlace → Type 0
IsFinished y p = In y (Finished p.circuit p.place)

-- before entry i it had come to wait for record r, with this value
abbrev pub HadWaited : List Entry → PutPlace → (i r : ℕ) → Elements → Type 0
HadWaited y p i r value =
    (e : ℕ) × (v : Stored) × (e < i) × At y e (Waits p.circuit p.place r v) × (v.value ≡ value)

-- ---- each write once

-- The write at a place came with this value, and was told in entry i first, in this way; it was
-- lost before entry i.
module _ (Came : (Circuit → (k i : ℕ) → Type 0) → PutPlace → (i : ℕ) → Elements → Type 0)
    (Lost : PutPlace → (i : ℕ) → Type 0) where
  -- A put that had waited is withdrawn at entry i: its record was removed before, or it is lost.
  abbrev pub IsLost : List Entry → PutPlace → (i : ℕ) → Type 0
  IsLost y p i =
      (r : ℕ) × (value : Elements) × HadWaited y p i r value
      × (In (take i y) (Removed r) ⊎ Lost p i)

  -- A write is applied once, to a record that is there, with the value with which it came, then or
  -- when it came to wait. It comes to wait once, in its step, and is applied or withdrawn, not
  -- both; withdrawn with its record, or lost. A record finishes one put at a time, each once.
  pub record Once (y : List Entry) : Type 0 where
    pub applied : (i j n k r q : ℕ) (v u : Stored) (b d : Bool) → At y i (Applied n k r v b)
        → At y j (Applied n k q u d) → i ≡ j
    pub there : (i n k r : ℕ) (v : Stored) (b : Bool) → At y i (Applied n k r v b)
        → ((s : RecordState) × In (take i y) (Added r s) × (kind_of v.value ≡ kind_of s.value))
        × (In (take i y) (Removed r) → ⊥)
    pub own : (i n k r : ℕ) (v : Stored) (b : Bool) → At y i (Applied n k r v b)
        → Came IsTaken (record { circuit = n; place = k }) i v.value
        ⊎ HadWaited y (record { circuit = n; place = k }) i r v.value
    pub came : (i n k r : ℕ) (v : Stored) → At y i (Waits n k r v)
        → Came IsHandledIn (record { circuit = n; place = k }) i v.value
    pub waits : (i j n k r q : ℕ) (v u : Stored) → At y i (Waits n k r v) → At y j (Waits n k q u)
        → i ≡ j
    pub dropped : (n k r : ℕ) (v : Stored) (b : Bool) → In y (Applied n k r v b)
        → In y (Withdrawn n k) → ⊥
    pub withdrawn : (i n k : ℕ) → At y i (Withdrawn n k)
        → IsLost y (record { circuit = n; place = k }) i
    pub finished : (n k e : ℕ) → At y e (Finished n k) → IsBusyUntil y n k e
        × ((f : ℕ) → At y f (Finished n k) → e ≡ f)

  -- One more entry may be told.
  abbrev pub MayTell : List Entry → Entry → Type 0
  MayTell y (Waits n k r v) =
      IsUntold y (record { circuit = n; place = k })
      × Came IsHandledIn (record { circuit = n; place = k }) (length y) v.value
  MayTell y (Applied n k r v busies) =
      (IsApplied y (record { circuit = n; place = k }) → ⊥) × (In y (Withdrawn n k) → ⊥)
      × ((s : RecordState) × In y (Added r s) × (kind_of v.value ≡ kind_of s.value))
      × (In y (Removed r) → ⊥)
      × (Came IsTaken (record { circuit = n; place = k }) (length y) v.value
      ⊎ HadWaited y (record { circuit = n; place = k }) (length y) r v.value)
  MayTell y (Finished n k) = IsBusyUntil y n k (length y) × (In y (Finished n k) → ⊥)
  MayTell y (Withdrawn n k) =
      (IsApplied y (record { circuit = n; place = k }) → ⊥)
      × IsLost y (record { circuit = n; place = k }) (length y)
  MayTell y e = Unit {0}
