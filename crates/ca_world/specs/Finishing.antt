-- Working: a record's busy put is finished at a server, and the next that waits is applied.
use Rattle.std.specs.Prelude.{ℕ, ◌≡◌, ◌<◌, ◌++◌, ◌⊎◌, Bool, true, List, [], ◌∷◌, Option, Some, None}
use Rattle.std.specs.Prelude.{Ok, Err, Result, if◌then◌else◌, is_some, length, map, option_map}
use Rattle.std.specs.Prelude.{slice_get, slice_set, unwrap_or, vec_capacity, vec_len}
use Rattle.ca_arena.specs.declared.handle.Handle.{Handle}
use Rattle.ca_dbr.specs.Elements.{Elements}
use Rattle.ca_records.specs.Puts.{Record, WaitingPut, record_named, written_meta}
use Rattle.ca_records.specs.declared.puts.Put.{Put}
use Rattle.ca_text.specs.declared.refusal.Refusal.{Refusal}
use Rattle.ca_text.specs.declared.refusal.Refusal.TheVariants.{OutOfMemory}
use Rattle.ca_text.specs.Place.{At}
use Rattle.ca_wire.specs.Fields.{Fields}
use Rattle.ca_wire.specs.Message.{IsMessage, spelled}
use Rattle.ca_model.specs.History as history
use Rattle.ca_model.specs.Server.{Server}
use Rattle.ca_model.specs.ServerCalls.{Finishes, finish_reply}
use Rattle.ca_model.specs.ServerSteps.{write_mask}
use Rattle.ca_model.specs.Speech.{In, Stored}
use Rattle.ca_model.specs.ServerEvents.{about, finish_entry, first_of, next_busy, next_entries}
use Rattle.ca_model.specs.ServerEvents.{next_numbers, numbers_posted, with_record}
use Rattle.ca_model.specs.World.{Joined, PutPlace, RecordSide, ServerSide as Side, grown}
use Rattle.ca_world.specs.Unstamped.{IsUnstamped}
use Rattle.ca_world_servers.specs.Effects.{no_stamp}
use Rattle.ca_world_data.specs.declared.joined.Joined.{Joined as Opened}
use Rattle.ca_world_data.specs.declared.server.RecordSide.{RecordSide as Held}
use Rattle.ca_world_data.specs.declared.server.ServerSide.{ServerSide}
use Rattle.ca_world_data.specs.Reporting.{Reports}
use Rattle.ca_world_data.specs.Seen.{record_of, server_of}

-- ---- the value of a put that waits

-- the entry says that the put at this place came to wait with this value
abbrev pub TellsWait : history.Entry → PutPlace → Elements → Type 0
TellsWait e p value =
    (r : ℕ) × (v : Stored) × (e ≡ history.Waits p.circuit p.place r v) × (v.value ≡ value)

-- an entry says so of the value that was found; or of none
abbrev pub WaitIn : history.Entry → PutPlace → Option Elements → Type 0
WaitIn e p (Some value) = TellsWait e p value
WaitIn e p None = (value : Elements) → TellsWait e p value → ⊥

-- an entry of this log says so of the value that was found; or none does
abbrev pub WaitsIn : List history.Entry → PutPlace → Option Elements → Type 0
WaitsIn log p (Some value) = (e : history.Entry) × In log e × TellsWait e p value
WaitsIn log p None = (e : history.Entry) → In log e → WaitIn e p None

-- the value of the first of these puts, by this log; or none waits
abbrev pub NextIn : List history.Entry → List PutPlace → Option Elements → Type 0
NextIn log ps None = ps ≡ []
NextIn log ps (Some value) = (p : PutPlace) × (first_of ps ≡ Some p) × WaitsIn log p (Some value)

-- so it is by the log of a life
abbrev pub IsNext : List (List history.Entry) → (life : ℕ) → List PutPlace → Option Elements
    → Type 0
IsNext logs life ps None = ps ≡ []
IsNext logs life ps (Some value) =
    (log : List history.Entry) × At logs life log × NextIn log ps (Some value)

-- the log of a life tells the value of the first of these puts, if one waits
abbrev pub HasNext : List (List history.Entry) → (life : ℕ) → List PutPlace → Type 0
HasNext logs life ps =
    (p : PutPlace) → first_of ps ≡ Some p → (value : Elements) × IsNext logs life ps (Some value)

-- ---- a record

-- the record of this name, as the core has it and beside that
abbrev pub IsBeside : Server → List RecordSide → (name : List ℕ) → Record → RecordSide → Type 0
IsBeside y rs name c r =
    (record_named y.records name ≡ Some c) × ((place : ℕ) × At rs place r × (r.name ≡ name))

-- the record of this name, if one was found; else none has it
abbrev pub IsFound : List Held → (name : List ℕ) → Option Held → Type 0
IsFound rs name None = (place : ℕ) (r : Held) → At rs place r → r.name.items ≡ name → ⊥
IsFound rs name (Some r) = (place : ℕ) × At rs place r × (r.name.items ≡ name)

-- What holds of a record of this name, so that its busy put may be finished: the record is there
-- beside the core's, with the place of the put, whose circuit is there; the put came on the circuit
-- of its handle, its reply is a message, the log tells of the put that waits first, with its value,
-- and writes are stored with no stamp.
pub record MayFinish (name : List ℕ) (y : Side) (ks : List Joined)
    (logs : List (List history.Entry)) : Type 0 where
  pub there : (c : Record) (b : Put) → record_named y.core.records name ≡ Some c → c.busy ≡ Some b
      → (r : RecordSide) × IsBeside y.core y.records name c r
  pub placed : (c : Record) (r : RecordSide) (b : Put) → IsBeside y.core y.records name c r
      → c.busy ≡ Some b
      → (p : PutPlace) × (j : Joined) × (r.busy ≡ Some p) × At ks p.circuit j
  pub handle : (c : Record) (r : RecordSide) (b : Put) (p : PutPlace) (j : Joined)
      → IsBeside y.core y.records name c r → c.busy ≡ Some b → r.busy ≡ Some p → At ks p.circuit j
      → j.at_server ≡ b.circuit
  pub fits : (c : Record) (b : Put) → record_named y.core.records name ≡ Some c → c.busy ≡ Some b
      → IsMessage (finish_reply b)
  pub told : (c : Record) (r : RecordSide) → IsBeside y.core y.records name c r
      → HasNext logs y.life r.waiting
  pub next : (c : Record) (r : RecordSide) (value : Option Elements)
      → IsBeside y.core y.records name c r → IsNext logs y.life r.waiting value
      → option_map (λ (w : WaitingPut). w.value) (first_of c.waiting) ≡ value
  pub unstamped : IsUnstamped y.core

-- the record of this name is busy with this put
pub record IsBusy (y : Server) (name : List ℕ) (b : Put) : Type 0 where
  pub c : Record
  pub named : record_named y.records name ≡ Some c
  pub busy : c.busy ≡ Some b

-- the same of a put that came on circuit k, whose reply is a message
pub record IsBusyOn (y : Server) (name : List ℕ) (k : ℕ) (ks : List Joined) : Type 0 where
  pub b : Put
  pub is : IsBusy y name b
  pub j : Joined
  pub at : At ks k j
  pub handle : j.at_server ≡ b.circuit
  pub fits : IsMessage (finish_reply b)

-- ---- a reply

-- the circuit, on which these went down
abbrev pub with_down : List history.Told → Joined → Joined
with_down told j = record j { lists = record j.lists { down = told } }

-- After n bytes these messages are spelled: none, or one without a payload.
pub record AreBehind (waited : ℕ) (bytes : List ℕ) (ms : List Fields) : Type 0 where
  pub begun : List ℕ
  pub long : length begun ≡ waited
  pub are : bytes ≡ begun ++ spelled ms
  pub few : (ms ≡ []) ⊎ ((m : Fields) × (ms ≡ m ∷ []) × IsMessage m × (m.payload ≡ []))

-- there is room for one more message down on circuit k
abbrev pub HasRoomOn : (k : ℕ) → List Opened → Type 0
HasRoomOn k ks = (j : Opened) → At ks k j → vec_len j.lists.down < vec_capacity j.lists.down

-- the circuits, on one of which the reply to a finished put went down, if it was sent
abbrev pub replied_in : PutPlace → List (Handle × Fields) → List Joined → List Joined
replied_in p sent ks =
    unwrap_or
    (option_map
    (λ (j : Joined). slice_set ks p.circuit
    (with_down
    (j.lists.down ++ about p.place history.Reply (map (λ (s : Handle × Fields). s.1) sent)) j))
    (slice_get ks p.circuit)) ks

-- ---- a finish

-- the put that is applied next, with its value, as the log tells of it
abbrev pub applied_of : (number : ℕ) → Option PutPlace → Option Elements → List history.Entry
applied_of number (Some p) (Some value) =
    history.Applied p.circuit p.place number
    (record { value = value; meta = written_meta value no_stamp }) true ∷ []
applied_of number p value = []

-- if a put is applied next, its numbers wait
abbrev pub numbered : Bool → (i : ℕ) → Server → (name : List ℕ) → List Joined → List Joined
numbered waits i core name ks = if waits then map (numbers_posted i core name write_mask) ks else ks

-- The core of server i finished its busy put, which came at this place: the numbers of the next
-- wait, if there is one, and the reply went down.
pub record Finished (i : ℕ) (name : List ℕ) (p : PutPlace) (waits : Bool) (y : Server)
    (ks : List Joined) (y' : Server) (ks' : List Joined) : Type 0 where
  pub sent : List (Handle × Fields)
  pub finishes : Finishes y name sent (Ok tt) y'
  pub circuits : ks' ≡ replied_in p sent (numbered waits i y name ks)

-- The same, with the records and the log of the server, and ends that ended are reported.
pub record TellsFinish (i : ℕ) (name : List ℕ) (p : PutPlace) (number : ℕ) (next : Option PutPlace)
    (value : Option Elements) (y : ServerSide) (ks : List Joined) (logs : List (List history.Entry))
    (y' : ServerSide) (ks' : List Joined) (logs' : List (List history.Entry)) : Type 0 where
  pub core : Server
  pub after : List Joined
  pub did : Finished i name p (is_some next) y.core ks core after
  pub mid : ServerSide
  pub mid_is : server_of mid ≡ record
      (server_of y) {
        core = core;
        records = with_record name next_busy (map record_of y.records.items);
      }
  pub numbers : mid.circuits.items ≡ y.circuits.items
  pub reports : Reports i mid after
      (grown y.life (finish_entry p ∷ applied_of number next value) logs) y' ks' logs'

-- The busy put of a record of server i is finished: its core says so, the log has it and the next
-- that is applied, the numbers of that wait, the reply went down, and ends that ended are reported.
pub record Ends (i : ℕ) (name : List ℕ) (y : ServerSide) (ks : List Joined)
    (logs : List (List history.Entry)) (y' : ServerSide) (ks' : List Joined)
    (logs' : List (List history.Entry)) : Type 0 where
  pub sent : List (Handle × Fields)
  pub core : Server
  pub finishes : Finishes y.core name sent (Ok tt) core
  pub cr : Record
  pub named : record_named y.core.records name ≡ Some cr
  pub r : RecordSide
  pub at : (place : ℕ) × At (map record_of y.records.items) place r × (r.name ≡ name)
  pub p : PutPlace
  pub busy : r.busy ≡ Some p
  pub mid : ServerSide
  pub mid_is : server_of mid ≡ record
      (server_of y) {
        core = core;
        records = with_record name next_busy (map record_of y.records.items);
      }
  pub numbers : mid.circuits.items ≡ y.circuits.items
  pub reports : Reports i mid (replied_in p sent (map (next_numbers i y.core name cr.waiting) ks))
      (grown y.life
      (finish_entry p ∷ next_entries (server_of y) r (first_of cr.waiting)
      (first_of r.waiting)) logs) y' ks' logs'

-- A put is finished at server i; the core may refuse it, and nothing changes.
abbrev pub FinishesAt : (i : ℕ) → (name : List ℕ) → ServerSide → List Joined
    → List (List history.Entry) → Result (Unit {0}) Refusal → ServerSide → List Joined
    → List (List history.Entry) → Type 0
FinishesAt i name y ks logs (Ok _) y' ks' logs' =
    Ends i name y ks logs y' ks' logs'
    ⊎ ((e : Refusal) × Finishes y.core name [] (Err e) y.core × (y' ≡ y) × (ks' ≡ ks)
    × (logs' ≡ logs))
FinishesAt i name y ks logs (Err OutOfMemory) y' ks' logs' =
    ((b : Put) × IsBusy y.core name b) × (y' ≡ y) × (ks' ≡ ks) × (logs' ≡ logs)
FinishesAt i name y ks logs (Err _) y' ks' logs' = ⊥
