-- Working: a step of a server's end, function by function.
use Rattle.std.specs.Prelude.{ℕ, ◌≡◌, ◌+◌, ◌++◌, ◌<◌, ◌≤◌, Bool, true, false, List, [], Option, Ok}
use Rattle.std.specs.Prelude.{Err, Result, length, map, slice_set, vec_capacity, vec_len}
use Rattle.ca_arena.specs.declared.handle.Handle.{Handle}
use Rattle.ca_text.specs.declared.refusal.Refusal.{Refusal}
use Rattle.ca_text.specs.declared.refusal.Refusal.TheVariants.{OutOfMemory}
use Rattle.ca_text.specs.Limits.{applied_limit}
use Rattle.ca_text.specs.Place.{At}
use Rattle.ca_wire.specs.Fields.{Fields}
use Rattle.ca_wire.specs.Message.{spelled}
use Rattle.ca_model.specs.History as history
use Rattle.ca_model.specs.Server.{Server, ServerEnd}
use Rattle.ca_model.specs.ServerSteps.{HasEnd, Next, Reaches}
use Rattle.ca_model.specs.ServerEvents.{about, numbers_after}
use Rattle.ca_model.specs.World.{Joined, RecordSide, log_length}
use Rattle.ca_server_circuit.specs.Effects.{effect_due}
use Rattle.ca_server_circuit.specs.declared.effect.Effect.{Effect}
use Rattle.ca_world.specs.ServerStepping.{StepsAt, with_lists}
use Rattle.ca_world.specs.declared.server_step.Prepared.{Prepared}
use Rattle.ca_world.specs.declared.server_step.SteppingEnd.{SteppingEnd}
use Rattle.ca_world_data.specs.declared.joined.Joined.{Joined as Opened}
use Rattle.ca_world_data.specs.declared.replies.Spare.{Spare}
use Rattle.ca_world_data.specs.declared.server.ServerSide.{ServerSide}
use Rattle.ca_world_data.specs.Numbering.{AllAlike, AreAlike}
use Rattle.ca_world_data.specs.Replies.{IsSpare}
use Rattle.ca_world_data.specs.Reporting.{Reports}
use Rattle.ca_world_data.specs.Seen.{server_of, step_of, told_of}
use Rattle.ca_world_data.specs.Updates.{AreGood}
use Rattle.ca_world_servers.specs.declared.ahead.Ahead.{Ahead}
use Rattle.ca_world_servers.specs.declared.coming.Coming.{Coming}
use Rattle.ca_world_servers.specs.Effects.{AreApart, IsAhead, TellsMessage, TellsWrite}
use Rattle.ca_world_data.specs.EndsWith.{ReportsWith}
use Rattle.ca_world_servers.specs.Handling.{HasRoomToBegin, HasRoomToNote, with_handled}
use Rattle.ca_world_servers.specs.Losing.{AreSeated}
use Rattle.ca_world_servers.specs.Parting.{AreBeside}

-- ---- before the step

-- what is known of the message of a circuit that is handled next, if it came
abbrev pub IsAheadOf : Server → Joined → List RecordSide → Ahead → Type 0
IsAheadOf core j rs a =
    (t : history.Sent) → At j.lists.up (length j.lists.handled) t
    → IsAhead core j.at_server rs t.message a

-- The step is of the end under this handle: how much waited there, and how much was
-- applied, as the core was.
pub record IsTurn (core : Server) (h : Handle) (e : ServerEnd) (t : SteppingEnd) : Type 0 where
  pub here : t.at ≡ h
  pub waited : t.waited ≡ length e.link.output
  pub applied : t.applied ≡ core.applied
  pub few : core.applied < applied_limit

-- What holds of the end of a circuit whose step it is, before that.
pub record MayStep (t : SteppingEnd) (core : Server) (j : Joined) (ks : List Joined)
    (rs : List RecordSide)
    (a : Ahead) : Type 0 where
  pub mine : j.server ≡ t.server
  pub opened : j.lists.server_open ≡ true
  pub e : ServerEnd
  pub has : HasEnd core j.at_server e
  pub ahead : (next : Next core j.at_server e) → IsAhead core j.at_server rs next.m a
  pub good : (next : Next core j.at_server e) → AreGood next.replies
  pub turn : IsTurn core j.at_server e t
  pub alike : AllAlike t.server core ks
  pub own : AreAlike e j
  pub seated : AreSeated j
  pub beside : AreBeside core.records rs
  pub apart : AreApart rs
  pub unstamped : core.stamp ≡ record { seconds = 0; nanos = 0 }

-- The same before anything is looked at.
pub record MayBegin (i : ℕ) (core : Server) (j : Joined) (ks : List Joined)
    (rs : List RecordSide) : Type 0 where
  pub mine : j.server ≡ i
  pub opened : j.lists.server_open ≡ true
  pub e : ServerEnd
  pub has : HasEnd core j.at_server e
  pub takes : (next : Next core j.at_server e) → (t : history.Sent)
      × At j.lists.up (length j.lists.handled) t × (t.message ≡ next.m)
  pub good : (next : Next core j.at_server e) → AreGood next.replies
  pub alike : AllAlike i core ks
  pub own : AreAlike e j
  pub seated : AreSeated j
  pub beside : AreBeside core.records rs
  pub apart : AreApart rs
  pub unstamped : core.stamp ≡ record { seconds = 0; nanos = 0 }

-- A circuit has room for the step of a message of this command, for its replies, and for what it
-- may begin there.
pub record HasRoomAhead (number : ℕ) (j : Opened) : Type 0 where
  pub notes : HasRoomToNote 2 j
  pub begins : HasRoomToBegin number j

-- memory for replies, of which the first has at most this many bytes of payload
pub record IsSpareFor (size : ℕ) (s : Spare) : Type 0 where
  pub spare : IsSpare s
  pub many : size ≤ vec_capacity s.payload

-- ---- after it

-- The end handled a message, which had this effect; its write, if it is one, reached the
-- subscriptions of its record.
pub record IsHandled (before core : Server) (h : Handle) (e : ServerEnd)
    (did : Effect) : Type 0 where
  pub next : Next before h e
  pub gone : Handle → Bool
  pub stays : gone h ≡ false
  pub reaches : Reaches next.action gone next.after core
  pub tells : did ≡ effect_due next.m next.action

-- After n bytes these messages are spelled.
pub record StandBehind (waited : ℕ) (bytes : List ℕ) (ms : List Fields) : Type 0 where
  pub begun : List ℕ
  pub long : waited ≡ length begun
  pub are : bytes ≡ begun ++ spelled ms
  pub good : AreGood ms

-- What the message did is begun on its circuit, whose lists are held aside with room for its
-- replies and its step.
pub record IsPrepared (before : Server) (e : ServerEnd) (j : Joined)
    (next : Next before j.at_server e) (r : Prepared) (new : Joined) : Type 0 where
  pub told : map told_of r.told.items ≡ about (length j.lists.handled) history.Reply next.replies
  pub circuit : new ≡ with_lists [] [] (numbers_after (length j.lists.handled) next.action j)

-- the lists that are held aside are those of the circuit, with room
pub record AreAside (j : Joined) (r : Prepared) : Type 0 where
  pub down : map told_of r.down.items ≡ j.lists.down
  pub handled : map step_of r.handled.items ≡ j.lists.handled
  pub room_down : vec_len r.down + length r.told.items ≤ vec_capacity r.down
  pub room_handled : vec_len r.handled + 1 ≤ vec_capacity r.handled

-- What a message did is told, ends that ended by it are reported, and it is noted on its
-- circuit. The circuits are those with the lists of circuit k aside.
pub record NotesAt (k i : ℕ) (did : Effect) (a : Ahead) (r : Prepared) (y : ServerSide)
    (ks : List Joined) (logs : List (List history.Entry)) (y' : ServerSide) (ks' : List Joined)
    (logs' : List (List history.Entry)) : Type 0 where
  pub mid : ServerSide
  pub circuits : List Joined
  pub told : List (List history.Entry)
  pub done : TellsMessage i
      (record {
        circuit = k;
        place = length r.handled.items;
      }) did a.write a.parting y ks logs mid circuits told
  pub over : List Joined
  pub reports : Reports i mid circuits told y' over logs'
  pub x : Joined
  pub at : At over k x
  pub noted :
      let step : history.Step =
      record {
        sent = length r.down.items;
        logged = log_length y.life logs;
        after = log_length y.life logs';
      } in
      ks' ≡ slice_set over k
      (with_handled step (map told_of r.told.items)
      (with_lists (map told_of r.down.items) (map step_of r.handled.items) x))

-- A write is told, if the message wrote, and then the end that closed and those
-- that ended beside it.
pub record ClosesWith (k i : ℕ) (h : Handle) (place : ℕ) (wrote : Option Bool)
    (write : Option Coming) (left : List ℕ) (y : ServerSide) (ks : List Joined)
    (logs : List (List history.Entry)) (y' : ServerSide) (ks' : List Joined)
    (logs' : List (List history.Entry)) : Type 0 where
  pub mid : ServerSide
  pub circuits : List Joined
  pub told : List (List history.Entry)
  pub done : TellsWrite i
      (record { circuit = k; place = place }) wrote write y ks logs mid circuits told
  pub reports : ReportsWith h left i mid circuits told y' ks' logs'

-- ---- the whole

-- A step of the server's end of circuit k, with the numbers of the server's circuits; without
-- memory all is as it was.
abbrev pub StepsServer : (k : ℕ) → ServerSide → List Joined → List (List history.Entry)
    → Result (Unit {0}) Refusal → ServerSide → List Joined → List (List history.Entry) → Type 0
StepsServer k y ks logs (Ok _) y' ks' logs' =
    (y'.circuits.items ≡ y.circuits.items)
    × ((j : Joined) → At ks k j → StepsAt k j (server_of y) ks logs (server_of y') ks' logs')
StepsServer k y ks logs (Err OutOfMemory) y' ks' logs' =
    (server_of y' ≡ server_of y) × (y'.circuits.items ≡ y.circuits.items) × (ks' ≡ ks)
    × (logs' ≡ logs)
StepsServer k y ks logs (Err _) y' ks' logs' = ⊥
