-- Vocabulary: the records of a server with the puts that make them busy or wait (section
-- "CA_PROTO_WRITE_NOTIFY").
use Rattle.std.specs.Prelude.{ℕ, Bool, not, List, [], ◌∷◌, ◌++◌, Option, Some, None, filter, find}
use Rattle.std.specs.Prelude.{if◌then◌else◌, length, map}
use Rattle.std.specs.List.{sum_by}
use Rattle.std.specs.Str.{bytes_eq}
use Rattle.ca_dbr.specs.declared.value.Meta.{Meta}
use Rattle.ca_dbr.specs.DisplayData.{DisplayData}
use Rattle.ca_dbr.specs.Elements.{Elements, displayed}
use Rattle.ca_dbr.specs.Held.{bare, display_of}
use Rattle.ca_display.specs.Alarm.{alarm_by}
use Rattle.ca_records.specs.declared.puts.Put.{Put}
use Rattle.ca_records.specs.declared.puts.Stamp.{Stamp}
use Rattle.ca_records.specs.Record.{RecordState}

-- a put that waits, and its value, converted to the type of its record
pub record WaitingPut : Type 0 where
  pub put : Put
  pub value : Elements

-- A record, the put that made it busy, and the puts that wait, in the order in which they came.
pub record Record : Type 0 where
  pub state : RecordState
  pub busy : Option Put
  pub waiting : List WaitingPut

-- a record as it begins
abbrev pub new_record : RecordState → Record
new_record s = record { state = s; busy = None; waiting = [] }

-- the record of this name
abbrev pub record_named : List Record → List ℕ → Option Record
record_named records name = find (λ (r : Record). bytes_eq r.state.name name) records

-- the records with the one of this name changed
abbrev pub with_record : List ℕ → (Record → Record) → List Record → List Record
with_record name f records =
    map (λ (r : Record). if bytes_eq r.state.name name then f r else r) records

-- the metadata of an applied write of this: its alarm by its display data, if any, and the stamp
abbrev pub written_meta : Elements → Stamp → Meta
written_meta held s =
    let alarm = alarm_by (display_of held) held in
    record { status = alarm.0; severity = alarm.1; seconds = s.seconds; nanos = s.nanos }

-- the record with this value
abbrev pub with_value : Elements → Meta → Record → Record
with_value e meta r = record r { state = record r.state { value = e; meta = meta } }

-- the record to which this was written under this stamp
abbrev pub with_write : Elements → Stamp → Record → Record
with_write e s r = with_value e (written_meta e s) r

-- the record, and what its puts that wait will make of it, shown by these display data
abbrev pub shown_by : DisplayData → Record → Record
shown_by d r = record r {
  state = record r.state { value = displayed d (bare r.state.value) };
  waiting = map (λ (p : WaitingPut). record p { value = displayed d (bare p.value) }) r.waiting;
}

-- the record with this put, which waits after the others
abbrev pub with_waiting : WaitingPut → Record → Record
with_waiting p r = record r { waiting = r.waiting ++ p ∷ [] }

-- The busy put is finished: the next that waits is applied with this stamp and makes the record
-- busy, or the record is free.
abbrev pub finished : Stamp → Record → List WaitingPut → Record
finished s r [] = record r { busy = None; waiting = [] }
finished s r (p ∷ ps) =
    record (with_write p.value s r) { busy = Some p.put; waiting = ps }

-- the record without the waiting puts that the test names
abbrev pub without_puts : (Put → Bool) → Record → Record
without_puts which r =
    record r { waiting = filter (λ (p : WaitingPut). not (which p.put)) r.waiting }

-- the records without the waiting puts that the test names
abbrev pub withdrawn : (Put → Bool) → List Record → List Record
withdrawn which records = map (without_puts which) records

-- how many puts wait for these records
abbrev pub waiting_in : List Record → ℕ
waiting_in records = sum_by (λ (r : Record). length r.waiting) records

-- the records without the one of this name
abbrev pub removed : List ℕ → List Record → List Record
removed name records = filter (λ (r : Record). not (bytes_eq r.state.name name)) records
