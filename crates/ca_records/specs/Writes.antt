-- Vocabulary: the calls on the records of a server, by answer (sections "CA_PROTO_WRITE",
-- "CA_PROTO_WRITE_NOTIFY" and "Process Variables").
use Rattle.std.specs.Prelude.{ℕ, ◌≡◌, ◌≢◌, ◌≤◌, ◌⊎◌, ◌++◌, ◌&&◌, [], ◌∷◌, Bool, true, false, List}
use Rattle.std.specs.Prelude.{Option, Some, None, Result, Ok, Err, is_some, length, option_map}
use Rattle.std.specs.Prelude.{slice_get}
use Rattle.std.specs.declared.alloc.AllocError.{AllocError}
use Rattle.ca_arena.specs.declared.handle.Handle.{Handle}
use Rattle.ca_dbr.specs.declared.value.Meta.{Meta}
use Rattle.ca_dbr.specs.DisplayData.{DisplayData}
use Rattle.ca_dbr.specs.Elements.{Elements, base_of}
use Rattle.ca_dbr.specs.Held.{kind_of}
use Rattle.ca_dbr.specs.Reading.{CanReadOver, ReadsElements, least_size}
use Rattle.ca_dbr.specs.Types.{base_number}
use Rattle.ca_ids.specs.Table.{same_handle}
use Rattle.ca_text.specs.Place.{At}
use Rattle.ca_text.specs.declared.refusal.Refusal.{Refusal}
use Rattle.ca_text.specs.declared.refusal.Refusal.TheVariants as refusal
use Rattle.ca_records.specs.declared.puts.Begun.{Begun}
use Rattle.ca_records.specs.declared.puts.Begun.TheVariants.{Applied, Refused, Waiting}
use Rattle.ca_records.specs.declared.puts.Finished.{Finished}
use Rattle.ca_records.specs.Calls.{AddFault, MayAdd, PostFault, PostFits}
use Rattle.ca_records.specs.Faults.{late_put_fault}
use Rattle.ca_records.specs.Given.{given_as}
use Rattle.ca_records.specs.declared.puts.Put.{Put}
use Rattle.ca_records.specs.declared.puts.Stamp.{Stamp}
use Rattle.ca_records.specs.Puts.{Record, WaitingPut, finished, new_record, record_named, removed}
use Rattle.ca_records.specs.Puts.{shown_by, with_value, with_waiting, with_write, withdrawn}
use Rattle.ca_records.specs.Puts.{without_puts}
use Rattle.ca_records.specs.Record.{RecordState}
use Rattle.ca_records.specs.Store.{Becomes, Enters, Finds, HasAt, Store, TakesAt, records_of}
use Rattle.ca_records.specs.Store.{with_place, with_slot}

-- ---- writes: a put with notification, or a plain write, which has none

-- a put with notification waits on a busy record
abbrev pub must_wait : Record → Option Put → Bool
must_wait r put = is_some put && is_some r.busy

-- the status of the first fault of a write to this record
abbrev pub write_fault : Record → Option Put → Elements → Option ℕ
write_fault r put e = late_put_fault r.state (must_wait r put) (length r.waiting) e

-- What a write without a fault comes to, of these elements, which are of the record's type.
abbrev pub Takes : Stamp → Record → Option Put → Elements → Begun → Record → Type 0
Takes s r put v (Applied true) next =
    (p : Put) × (put ≡ Some p) × (r.busy ≡ None) × (r.state.slow ≡ true)
    × (next ≡ record (with_write v s r) { busy = Some p })
Takes s r put v (Applied false) next =
    (must_wait r put ≡ false) × ((is_some put && r.state.slow) ≡ false)
    × (next ≡ with_write v s r)
Takes s r put v Waiting next =
    (p : Put) × (put ≡ Some p) × (must_wait r put ≡ true)
    × (next ≡ with_waiting (record { put = p; value = v }) r)
Takes s r put v (Refused status) next = ⊥

-- There may be no memory for a write that waits, and for one that is not of the record's type.
abbrev pub NeedsMemory : Record → Option Put → Elements → Type 0
NeedsMemory r put e = (must_wait r put ≡ true) ⊎ (base_of e ≢ base_of r.state.value)

-- A write to this record under this stamp comes to this, and leaves the record as next. A refused
-- one leaves it as it was, and so does one for which there is no memory.
abbrev pub BeginsOn : Stamp → Record → Option Put → Elements → Result Begun AllocError → Record
    → Type 0
BeginsOn s r put e (Ok (Refused status)) next =
    (write_fault r put e ≡ Some status.number) × (next ≡ r)
BeginsOn s r put e (Ok begun) next =
    (v : Elements) × (write_fault r put e ≡ None) × (given_as e (kind_of r.state.value) ≡ Ok v)
    × Takes s r put v begun next
BeginsOn s r put e (Err lack) next = (write_fault r put e ≡ None) × NeedsMemory r put e × (next ≡ r)

-- the same at a place of the store
pub record Begins (old : Store) (place : ℕ) (put : Option Put) (e : Elements)
    (result : Result Begun AllocError) (new : Store) : Type 0 where
  pub r : Record
  pub next : Record
  pub begins : BeginsOn old.stamp r put e result next
  pub becomes : Becomes old place r next new

-- A write of one element of the plain type of this number, as these bytes have it, was applied at a
-- place: a put with notification, or none.
pub record WritesOne (old : Store) (place : ℕ) (is_put : Bool) (number : ℕ) (bytes : List ℕ)
    (new : Store) : Type 0 where
  pub e : Elements
  pub takes : TakesAt old place e
  pub typed : base_number (base_of e) ≡ number
  pub long : least_size (base_of e) 1 ≤ length bytes
  pub reads : ReadsElements (base_of e) 1 bytes e
  -- it is what any such write of this element begins as
  pub begins : (put : Option Put) → is_some put ≡ is_put
      → Begins old place put e (Ok (Applied false)) new

-- One element can be written so: the record at the place has one of that type, and the put neither
-- waits nor makes it busy.
pub record CanWriteOne (s : Store) (place : ℕ) (is_put : Bool) (number : ℕ)
    (bytes : List ℕ) : Type 0 where
  pub r : Record
  pub at : HasAt s place r
  pub free : (is_put && is_some r.busy) ≡ false
  pub quick : (is_put && r.state.slow) ≡ false
  pub over : CanReadOver number bytes r.state.value

-- One element was read over the value by a put with notification, which makes its record busy.
pub record PutsOne (old : Store) (place : ℕ) (put : Put) (number : ℕ) (bytes : List ℕ)
    (new : Store) : Type 0 where
  pub e : Elements
  pub takes : TakesAt old place e
  pub typed : base_number (base_of e) ≡ number
  pub long : least_size (base_of e) 1 ≤ length bytes
  pub reads : ReadsElements (base_of e) 1 bytes e
  pub begins : Begins old place (Some put) e (Ok (Applied true)) new

-- One element can be put so: the record at the place has one of that type, is
-- slow, and is not busy.
pub record CanPutOne (s : Store) (place : ℕ) (number : ℕ) (bytes : List ℕ) : Type 0 where
  pub r : Record
  pub at : HasAt s place r
  pub free : r.busy ≡ None
  pub slow : r.state.slow ≡ true
  pub over : CanReadOver number bytes r.state.value

-- ---- the end of a busy put

-- the put that waits next
abbrev pub next_put : List WaitingPut → Option Put
next_put waiting = option_map (λ (w : WaitingPut). w.put) (slice_get waiting 0)

-- The busy put of a record ends; the next that waits is applied under this stamp, and is busy then.
abbrev pub FinishesOn : Stamp → Record → Option (Put × Option Put) → Record → Type 0
FinishesOn s r None next = (r.busy ≡ None) × (next ≡ r)
FinishesOn s r (Some (ended, applied)) next =
    (r.busy ≡ Some ended) × (applied ≡ next_put r.waiting) × (next ≡ finished s r r.waiting)

-- the record of this name is at the place, and became this one
pub record Turns (old : Store) (name : List ℕ) (place : ℕ) (r next : Record)
    (new : Store) : Type 0 where
  pub found : record_named (records_of old) name ≡ Some r
  pub named : r.state.name ≡ name
  pub becomes : Becomes old place r next new

abbrev pub Finishes : Store → List ℕ → Result Finished Refusal → Store → Type 0
Finishes old name (Ok f) new =
    (r : Record) × (r.busy ≡ Some f.ended) × (f.applied ≡ next_put r.waiting)
    × Turns old name f.place r (finished old.stamp r r.waiting) new
Finishes old name (Err refusal.UnknownRecord) new =
    (record_named (records_of old) name ≡ None) × (new ≡ old)
Finishes old name (Err refusal.NotBusy) new =
    ((r : Record) × (record_named (records_of old) name ≡ Some r) × (r.busy ≡ None)) × (new ≡ old)
Finishes old name (Err e) new = ⊥

-- the same of the record at a place, by its name
abbrev pub FinishesAt : Store → (place : ℕ) → Option Finished → Store → Type 0
FinishesAt old place (Some f) new =
    (name : List ℕ) × Finds old name place × Finishes old name (Ok f) new
FinishesAt old place None new =
    (name : List ℕ) × Finds old name place × Finishes old name (Err refusal.NotBusy) new

-- ---- puts that are taken out

-- a put of this circuit, and of this channel if there is one
abbrev pub is_of : Handle → Option Handle → Put → Bool
is_of circuit None p = same_handle p.circuit circuit
is_of circuit (Some channel) p = same_handle p.circuit circuit && same_handle p.channel channel

-- The waiting puts of a circuit, or of one channel of it, were taken out of the record at a place.
pub record Withdraws (old : Store) (place : ℕ) (circuit : Handle) (channel : Option Handle)
    (new : Store) : Type 0 where
  pub r : Record
  pub becomes : Becomes old place r (without_puts (is_of circuit channel) r) new
  -- they are gone from this record as they would be from all
  pub rest : withdrawn (is_of circuit channel) (records_of new) ≡ withdrawn (is_of circuit channel)
      (records_of old)

-- no put that the test names waits for these records
abbrev pub HaveNone : (Put → Bool) → List Record → Type 0
HaveNone which records =
    (i : ℕ) (r : Record) (k : ℕ) (w : WaitingPut) → At records i r → At r.waiting k w
    → which w.put ≡ false

-- ---- posts

abbrev pub Posts : Store → List ℕ → Elements → Meta → Result ℕ Refusal → Store → Type 0
Posts old name e meta (Ok place) new =
    PostFits (records_of old) name e
    × ((r : Record) × Turns old name place r (with_value e meta r) new)
Posts old name e meta (Err fault) new = PostFault (records_of old) name e fault × (new ≡ old)

-- ---- display data

-- the record of this name is shown by these display data, and so is what waits for it
abbrev pub SetsDisplay : Store → List ℕ → DisplayData → Result ℕ Refusal → Store → Type 0
SetsDisplay old name d (Ok place) new =
    (r : Record) × Turns old name place r (shown_by d r) new
SetsDisplay old name d (Err refusal.UnknownRecord) new =
    (record_named (records_of old) name ≡ None) × (new ≡ old)
SetsDisplay old name d (Err e) new = ⊥

-- ---- records come and go

-- The record comes to a place; or it is refused, last as OutOfMemory.
abbrev pub Adds : Store → RecordState → Result ℕ Refusal → Store → Type 0
Adds old s (Ok place) new = MayAdd (records_of old) s × Enters old place (new_record s) new
Adds old s (Err refusal.OutOfMemory) new = MayAdd (records_of old) s × (new ≡ old)
Adds old s (Err e) new = AddFault (records_of old) s e × (new ≡ old)

-- The record, whose name is new, comes to a new place, after all others; or it is refused.
abbrev pub Defines : Store → RecordState → Result ℕ Refusal → Store → Type 0
Defines old s (Ok place) new =
    MayAdd (records_of old) s × (place ≡ length old.slots) × (new ≡ with_place (new_record s) old)
    × (records_of new ≡ records_of old ++ new_record s ∷ [])
Defines old s (Err refusal.OutOfMemory) new = MayAdd (records_of old) s × (new ≡ old)
Defines old s (Err refusal.RecordExists) new = ⊥
Defines old s (Err e) new = AddFault (records_of old) s e × (new ≡ old)

-- the record of this name leaves its place, and its puts go with it
pub record Leaves (old : Store) (name : List ℕ) (place : ℕ) (new : Store) : Type 0 where
  pub r : Record
  pub found : record_named (records_of old) name ≡ Some r
  pub at : HasAt old place r
  pub leaves : new ≡ with_slot place None old
  pub records : records_of new ≡ removed name (records_of old)

abbrev pub Removes : Store → List ℕ → Result ℕ Refusal → Store → Type 0
Removes old name (Ok place) new = Leaves old name place new
Removes old name (Err refusal.UnknownRecord) new =
    (record_named (records_of old) name ≡ None) × (new ≡ old)
Removes old name (Err e) new = ⊥
