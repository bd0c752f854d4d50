-- Working: what a message did beside its replies, by the effect that its step reports, and what of
-- it is known before that step.
use Rattle.std.specs.Prelude.{ℕ, ◌≡◌, ◌⊎◌, Bool, true, false, List, [], ◌∷◌, Option, Some, None}
use Rattle.std.specs.Prelude.{if◌then◌else◌, map, nat_lt, option_map}
use Rattle.ca_arena.specs.declared.handle.Handle.{Handle}
use Rattle.ca_dbr.specs.Elements.{elements}
use Rattle.ca_queue.specs.Circuit.{HasNone}
use Rattle.ca_queue.specs.Keys.{same}
use Rattle.ca_queue.specs.Queue.{Queue}
use Rattle.ca_records.specs.declared.puts.Stamp.{Stamp}
use Rattle.ca_records.specs.Puts.{written_meta}
use Rattle.ca_text.specs.Command.{command_number}
use Rattle.ca_text.specs.declared.command.Command.TheVariants as command
use Rattle.ca_text.specs.Place.{At}
use Rattle.ca_wire.specs.Fields.{Fields}
use Rattle.ca_model.specs.Due.{Action}
use Rattle.ca_model.specs.History.{Cause, Entry}
use Rattle.ca_model.specs.History as history
use Rattle.ca_model.specs.Server.{Server}
use Rattle.ca_model.specs.ServerSteps.{write_mask}
use Rattle.ca_model.specs.Speech.{Stored}
use Rattle.ca_model.specs.ServerEvents.{logged_by, number_of, numbers_posted, records_after}
use Rattle.ca_model.specs.ServerEvents.{with_record, without_standing, write_numbers}
use Rattle.ca_model.specs.World.{Joined, PutPlace, RecordSide, grown}
use Rattle.ca_server_circuit.specs.declared.effect.Effect.{Effect}
use Rattle.ca_server_circuit.specs.declared.effect.Effect.TheVariants.{Busied, Cancelled, Cleared}
use Rattle.ca_server_circuit.specs.declared.effect.Effect.TheVariants.{Created, Queued, Subscribed}
use Rattle.ca_server_circuit.specs.declared.effect.Effect.TheVariants.{Switched, Wrote}
use Rattle.ca_world_data.specs.declared.joined.Joined.{Joined as Opened}
use Rattle.ca_world_data.specs.declared.server.RecordSide.{RecordSide as Kept}
use Rattle.ca_world_data.specs.declared.server.ServerSide.{ServerSide}
use Rattle.ca_world_data.specs.Seen.{entry_of, record_of, server_of}
use Rattle.ca_world_servers.specs.declared.ahead.Ahead.{Ahead}
use Rattle.ca_world_servers.specs.declared.coming.Coming.{Coming}
use Rattle.ca_world_servers.specs.declared.parting.Parting.{Parting}
use Rattle.ca_world_servers.specs.Answering.{Answers}
use Rattle.ca_world_servers.specs.Coming.{Foresees}
use Rattle.ca_world_servers.specs.Handling.{HasRoomToCreate, HasRoomToSubscribe, HaveRoomToWait}
use Rattle.ca_world_servers.specs.Handling.{made_busy, with_creation, with_standing}
use Rattle.ca_world_servers.specs.Handling.{with_switched, with_waiting, without_sid}
use Rattle.ca_world_servers.specs.Parting.{all_gone, all_kept, places_in, with_kept}

-- ---- what it did

-- whether a write was applied, and then whether it made its record busy
abbrev pub wrote_by : Effect → Option Bool
wrote_by (Wrote sid) = Some false
wrote_by (Busied sid) = Some true
wrote_by did = None

-- the channels, the subscriptions and the numbers of the circuit, whose message at this place did
-- it: `numbers_after` of the statement
abbrev pub numbers_by : Effect → (place : ℕ) → Joined → Joined
numbers_by (Created sid) place j = with_creation sid place j
numbers_by (Cleared sid) place j = without_sid sid j
numbers_by (Subscribed sid sub) place j = with_standing (record { sid = sid; sub = sub }) place j
numbers_by (Cancelled sid sub) place j = without_standing (same (record { sid = sid; sub = sub })) j
numbers_by (Switched on) place j = with_switched on j
numbers_by did place j = j

-- a subscription that began is one that none of these queues has
abbrev pub BeginsNew : Effect → List (Queue (ℕ × Cause)) → Type 0
BeginsNew (Subscribed sid sub) qs = HasNone qs (record { sid = sid; sub = sub })
BeginsNew did qs = Unit {0}

-- the circuit has room for what began on it
abbrev pub HasRoomBy : Effect → Opened → Type 0
HasRoomBy (Created sid) j = HasRoomToCreate j
HasRoomBy (Subscribed sid sub) j = HasRoomToSubscribe j
HasRoomBy did j = Unit {0}

-- ---- what is known before

-- the message is a write, with notification or without
abbrev pub IsWrite : Fields → Type 0
IsWrite m =
    (m.command ≡ command_number command.Write) ⊎ (m.command ≡ command_number command.WriteNotify)

-- what becomes of the puts that wait on the channel of this SID, if it is cleared
pub record IsParting (core : Server) (h : Handle) (sid : ℕ) (records : List RecordSide)
    (p : Parting) : Type 0 where
  pub kept : map places_in p.kept.items ≡ all_kept core h sid records
  pub told : map entry_of p.told.items ≡ all_gone core h sid records

-- what becomes of the puts of these records is known for a channel
abbrev pub IsPartingOf : Option Parting → List RecordSide → Type 0
IsPartingOf (Some p) records =
    (core : Server) × (h : Handle) × (sid : ℕ) × IsParting core h sid records p
IsPartingOf None records = Unit {0}

-- What is known of a message before its step: its command, its write, if it is one, what becomes of
-- the puts that wait on the channel that it clears, and how large its replies are at most.
pub record IsAhead (core : Server) (h : Handle) (records : List RecordSide) (m : Fields)
    (a : Ahead) : Type 0 where
  pub writes : IsWrite m → Foresees core h m a.write
  pub clears : m.command ≡ command_number command.ClearChannel → (p : Parting)
      × (a.parting ≡ Some p) × IsParting core h m.p1 records p
  pub parted : IsPartingOf a.parting records
  pub command : a.command ≡ m.command
  pub answers : Answers core h m a.reply

-- each record that the write names has room for one more put that waits
abbrev pub MayWaitFor : Option Coming → List Kept → Type 0
MayWaitFor (Some w) rs = HaveRoomToWait w.name.items rs
MayWaitFor None rs = Unit {0}

-- no two of these records have one name
abbrev pub AreApart : List RecordSide → Type 0
AreApart rs = (i j : ℕ) (a b : RecordSide) → At rs i a → At rs j b → a.name ≡ b.name → i ≡ j

-- ---- a step that closed its end

-- whether a write makes its record busy, if there is one
abbrev pub busies_in : Option Coming → Option Bool
busies_in write = option_map (λ (w : Coming). w.busies) write

-- A core that had applied n writes before a message made this write by it, and made the record
-- busy or not; or it did not write.
abbrev pub wrote_in : Server → (applied : ℕ) → Option Coming → Option Bool
wrote_in core applied write = if nat_lt applied core.applied then busies_in write else None

-- ---- how it is told

-- What the message at this place of circuit k did, at server i, is told of its records, in
-- its log and in the numbers that wait. The core before the step was this; y has the one
-- after it, which stays.
pub record TellsAction (i : ℕ) (p : PutPlace) (before : Server) (h : Handle) (action : Action)
    (y : ServerSide) (ks : List Joined) (logs : List (List Entry)) (y' : ServerSide)
    (ks' : List Joined) (logs' : List (List Entry)) : Type 0 where
  pub side : server_of y' ≡ record
      (server_of y) { records = records_after before h p action (map record_of y.records.items) }
  pub numbers : y'.circuits.items ≡ y.circuits.items
  pub circuits : ks' ≡ map (write_numbers i y.core action) ks
  pub logged : logs' ≡ grown y.life
      (logged_by before h p action (map record_of y.records.items)) logs

-- Of a server's records these are left, and its log has these entries more.
pub record IsTold (records : List RecordSide) (told : List Entry) (y : ServerSide)
    (logs : List (List Entry)) (y' : ServerSide) (logs' : List (List Entry)) : Type 0 where
  pub side : server_of y' ≡ record (server_of y) { records = records }
  pub numbers : y'.circuits.items ≡ y.circuits.items
  pub logged : logs' ≡ grown y.life told logs

-- the stamp of a write in a world: none
abbrev pub no_stamp : Stamp
no_stamp = record { seconds = 0; nanos = 0 }

-- the value of a write as a world stores it
abbrev pub written : Coming → Stored
written w = record { value = w.held; meta = written_meta w.held no_stamp }

-- the records, of which a write makes the one of this name busy, or not
abbrev pub busy_after : (busies : Bool) → (name : List ℕ) → PutPlace → List RecordSide
    → List RecordSide
busy_after true name p records = with_record name (made_busy p) records
busy_after false name p records = records

-- a write is told: it is applied, and its numbers wait
abbrev pub TellsWrite : (i : ℕ) → PutPlace → Option Bool → Option Coming → ServerSide → List Joined
    → List (List Entry) → ServerSide → List Joined → List (List Entry) → Type 0
TellsWrite i p None write y ks logs y' ks' logs' = (y' ≡ y) × (ks' ≡ ks) × (logs' ≡ logs)
TellsWrite i p (Some busies) None y ks logs y' ks' logs' = (y' ≡ y) × (ks' ≡ ks) × (logs' ≡ logs)
TellsWrite i p (Some busies) (Some w) y ks logs y' ks' logs' =
    IsTold (busy_after busies w.name.items p (map record_of y.records.items))
    (history.Applied p.circuit p.place (number_of w.name.items (map record_of y.records.items))
    (written w) busies ∷ []) y logs y' logs'
    × (ks' ≡ map (numbers_posted i y.core w.name.items write_mask) ks)

-- a put is told that waits
abbrev pub TellsWait : PutPlace → Option Coming → ServerSide → List (List Entry) → ServerSide
    → List (List Entry) → Type 0
TellsWait p (Some w) y logs y' logs' =
    IsTold (with_record w.name.items (with_waiting p) (map record_of y.records.items))
    (history.Waits p.circuit p.place (number_of w.name.items (map record_of y.records.items))
    (written w) ∷ []) y logs y' logs'
TellsWait p None y logs y' logs' = (y' ≡ y) × (logs' ≡ logs)

-- the puts of a channel that is cleared are told withdrawn
abbrev pub TellsClear : Option Parting → ServerSide → List (List Entry) → ServerSide
    → List (List Entry) → Type 0
TellsClear (Some p) y logs y' logs' =
    IsTold (with_kept (map places_in p.kept.items) (map record_of y.records.items))
    (map entry_of p.told.items) y logs y' logs'
TellsClear None y logs y' logs' = (y' ≡ y) × (logs' ≡ logs)

-- what a message with this effect did is told
abbrev pub TellsMessage : (i : ℕ) → PutPlace → Effect → Option Coming → Option Parting → ServerSide
    → List Joined → List (List Entry) → ServerSide → List Joined → List (List Entry) → Type 0
TellsMessage i p (Queued sid) write parting y ks logs y' ks' logs' =
    TellsWait p write y logs y' logs' × (ks' ≡ ks)
TellsMessage i p (Cleared sid) write parting y ks logs y' ks' logs' =
    TellsClear parting y logs y' logs' × (ks' ≡ ks)
TellsMessage i p did write parting y ks logs y' ks' logs' =
    TellsWrite i p (wrote_by did) write y ks logs y' ks' logs'
