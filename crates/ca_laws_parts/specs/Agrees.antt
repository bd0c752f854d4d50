-- Working: a server's records beside the log of its life: what each record is, the log says.
use Rattle.std.specs.Prelude.{ℕ, ◌≡◌, ◌<◌, ◌≤◌, ◌⊎◌, Bool, true, List, [], ◌∷◌, Option, Some, None}
use Rattle.std.specs.Prelude.{filter_map, length, map}
use Rattle.ca_text.specs.Place.{At}
use Rattle.ca_dbr.specs.Elements.{Elements}
use Rattle.ca_dbr.specs.Held.{kind_of}
use Rattle.ca_queue.specs.Order.{last_of}
use Rattle.ca_records.specs.declared.puts.Put.{Put}
use Rattle.ca_records.specs.Puts.{Record, WaitingPut}
use Rattle.ca_records.specs.Record.{RecordState}
use Rattle.ca_model.specs.Speech.{In, Stored}
use Rattle.ca_model.specs.History.{Circuit, Entry, Added, Applied, Finished, Posted, Removed}
use Rattle.ca_model.specs.History.{Waits, Withdrawn}
use Rattle.ca_model.specs.Known.{waiting}
use Rattle.ca_model.specs.Posts.{post_in}
use Rattle.ca_model.specs.World.{PutPlace, RecordSide}
use Rattle.ca_laws_parts.specs.Both.{Both}
use Rattle.ca_laws_parts.specs.Once.{IsApplied, IsFinished, IsWithdrawn, Once}

-- ---- busy puts

-- No put makes record r busy: each that did is finished.
abbrev pub IsIdle : List Entry → (r : ℕ) → Type 0
IsIdle y r = (n k : ℕ) (v : Stored) → In y (Applied n k r v true) → In y (Finished n k)

-- This put makes record r busy: it was applied last of those that did, and it
-- alone is not finished.
pub record IsBusyWith (y : List Entry) (r : ℕ) (p : PutPlace) : Type 0 where
  pub i : ℕ
  pub v : Stored
  pub at : At y i (Applied p.circuit p.place r v true)
  pub last : (j n k : ℕ) (u : Stored) → i < j → At y j (Applied n k r u true) → ⊥
  pub unfinished : IsFinished y p → ⊥
  pub others : (n k : ℕ) (u : Stored) → In y (Applied n k r u true) → In y (Finished n k)
      ⊎ ((n ≡ p.circuit) × (k ≡ p.place))

-- by this log record r is busy with this put, or with none
abbrev pub IsBusyBy : List Entry → (r : ℕ) → Option PutPlace → Type 0
IsBusyBy y r None = IsIdle y r
IsBusyBy y r (Some p) = IsBusyWith y r p

-- ---- waiting puts

-- a place as the log has it
abbrev pub pair_of : PutPlace → ℕ × ℕ
pair_of p = (p.circuit, p.place)

-- By this log the put came to wait for record r with this value, and was neither
-- applied nor withdrawn.
pub record StillWaits (y : List Entry) (r : ℕ) (p : PutPlace) (value : Elements) : Type 0 where
  pub v : Stored
  pub came : In y (Waits p.circuit p.place r v)
  pub with_it : v.value ≡ value
  pub unapplied : IsApplied y p → ⊥
  pub kept : IsWithdrawn y p → ⊥

-- no two are at one place
abbrev pub AreApart : List PutPlace → Type 0
AreApart [] = Unit {0}
AreApart (p ∷ ps) = (In ps p → ⊥) × AreApart ps

-- ---- a record

-- what stands as a record's value by this log
abbrev pub value_by : List Entry → (r : ℕ) → Option Stored
value_by y r = last_of (filter_map (post_in r (λ bits. true)) y)

-- what a record's value is
abbrev pub stored : Record → Stored
stored c = record { value = c.state.value; meta = c.state.meta }

-- Which put came at which place.
module _ (Is : PutPlace → Put → Type 0) where
  -- a put that waits, beside its place
  abbrev pub WaitsAs : List Entry → (r : ℕ) → PutPlace → WaitingPut → Type 0
  WaitsAs y r p w = StillWaits y r p w.value × Is p w.put

  -- the busy put beside its place, or neither
  abbrev pub IsBusyAs : Option PutPlace → Option Put → Type 0
  IsBusyAs None None = Unit {0}
  IsBusyAs None (Some b) = ⊥
  IsBusyAs (Some p) None = ⊥
  IsBusyAs (Some p) (Some b) = Is p b

  -- A record as its server has it, and by numbers, is what this log says: it was added and not
  -- removed, and of that only its value changed, which is that of the last write or post; the puts
  -- that wait, in order; and the one that makes it busy.
  pub record Agrees (y : List Entry) (c : Record) (r : RecordSide) : Type 0 where
    pub name : c.state.name ≡ r.name
    pub first : RecordState
    pub added : In y (Added r.number first)
    pub there : In y (Removed r.number) → ⊥
    pub state : c.state ≡ record first { value = c.state.value; meta = c.state.meta }
    pub base : kind_of c.state.value ≡ kind_of first.value
    pub value : value_by y r.number ≡ Some (stored c)
    pub waits : waiting y r.number ≡ map pair_of r.waiting
    pub each : Both (WaitsAs y r.number) r.waiting c.waiting
    pub apart : AreApart r.waiting
    pub based : (i : ℕ) (w : WaitingPut) → At c.waiting i w → kind_of w.value ≡ kind_of first.value
    pub busy : IsBusyBy y r.number r.busy
    pub busy_as : IsBusyAs r.busy c.busy
    -- only a slow record is made busy
    pub slow : (b : Put) → c.busy ≡ Some b → c.state.slow ≡ true

-- ---- all records

-- no record here has this name or this number
abbrev pub Lack : (name : List ℕ) → (number : ℕ) → List RecordSide → Type 0
Lack name number [] = Unit {0}
Lack name number (r ∷ rs) = ((r.name ≡ name → ⊥) × (r.number ≡ number → ⊥)) × Lack name number rs

-- no two records have one name, or one number
abbrev pub AreOthers : List RecordSide → Type 0
AreOthers [] = Unit {0}
AreOthers (r ∷ rs) = Lack r.name r.number rs × AreOthers rs

-- ---- tests of waiting puts

-- Two tests agree on the puts that wait.
abbrev pub TestsAgree : (PutPlace → Bool) → (Put → Bool) → List Record → List RecordSide → Type 0
TestsAgree which test cs rs =
    (i j : ℕ) (c : Record) (r : RecordSide) (p : PutPlace) (w : WaitingPut) → At cs i c → At rs i r
    → At r.waiting j p → At c.waiting j w → which p ≡ test w.put

-- those that it names are lost from now on
abbrev pub LoseAll : (PutPlace → (i : ℕ) → Type 0) → (PutPlace → Bool) → List Entry
    → List RecordSide → Type 0
LoseAll Lost which y rs =
    (j : ℕ) (r : RecordSide) (p : PutPlace) → At rs j r → In r.waiting p → which p ≡ true → (i : ℕ)
    → length y ≤ i → Lost p i

-- ---- a life

-- the entry is about record r
abbrev pub IsOf : (r : ℕ) → Entry → Type 0
IsOf r (Added i s) = i ≡ r
IsOf r (Removed i) = i ≡ r
IsOf r (Posted i mask v) = i ≡ r
IsOf r (Waits n k i v) = i ≡ r
IsOf r (Applied n k i v busies) = i ≡ r
IsOf r (Finished n k) = ⊥
IsOf r (Withdrawn n k) = ⊥

-- A server's life: its log has each write once, and its records, of which n were added,
-- are what the log says.
pub record Agree (Came : (Circuit → (k i : ℕ) → Type 0) → PutPlace → (i : ℕ) → Elements → Type 0)
    (Lost : PutPlace → (i : ℕ) → Type 0) (Is : PutPlace → Put → Type 0) (y : List Entry)
    (records : List Record)
    (sides : List RecordSide) (added : ℕ) : Type 0 where
  pub once : Once Came Lost y
  pub each : Both (Agrees Is y) records sides
  pub others : AreOthers sides
  pub numbers : (r : ℕ) (e : Entry) → In y e → IsOf r e → r < added
