-- Statement: which events can be done, what each may leave, and runs of events.
use Rattle.std.specs.Prelude.{ℕ, ◌≡◌, ◌<◌, ◌≤◌, ◌⊎◌, true, List, [], Option, Some, Err, length}
use Rattle.std.specs.List.{FoldsTo, range_with_len}
use Rattle.ca_arena.specs.declared.handle.Handle.{Handle}
use Rattle.ca_dbr.specs.Elements.{IsValue}
use Rattle.ca_dbr.specs.Held.{IsHeldValue}
use Rattle.ca_records.specs.Record.{unset}
use Rattle.ca_text.specs.declared.refusal.Refusal.TheVariants.{OutOfMemory}
use Rattle.ca_text.specs.Mask.{HasEvent}
use Rattle.ca_text.specs.Place.{At}
use Rattle.ca_model.specs.ClientEnds.{ClientTicks}
use Rattle.ca_model.specs.History.{Collected, GaveUp, Intent}
use Rattle.ca_model.specs.ClientEvents.{HappensAccept, HappensClear, HappensClientDatagram}
use Rattle.ca_model.specs.ClientEvents.{HappensClientRestart, HappensClientStep, HappensCutClient}
use Rattle.ca_model.specs.ClientEvents.{HappensDown, HappensHandingOut, HappensOpen, HappensRead}
use Rattle.ca_model.specs.ClientEvents.{HappensSubscribe, HappensUnsubscribe, HappensUp}
use Rattle.ca_model.specs.ClientEvents.{HappensWrite, HappensWriteNotify, TicksOne, WantsFirst}
use Rattle.ca_model.specs.ClientEvents.{waiting_down, waiting_up}
use Rattle.ca_model.specs.Events.{Event}
use Rattle.ca_model.specs.Events as event
use Rattle.ca_model.specs.ServerEvents.{HappensAdd, HappensCutServer, HappensFinish, HappensPost}
use Rattle.ca_model.specs.ServerEvents.{HappensPump, HappensRemove, HappensServerDatagram}
use Rattle.ca_model.specs.ServerEvents.{HappensServerRestart, HappensServerStep}
use Rattle.ca_model.specs.World.{ClientSide, Joined, Joins, ServerSide, Setting, World, opening}

-- ---- what has to be there

-- a client, and a server, of this number
pub record IsClient (w : World) (i : ℕ) : Type 0 where
  pub x : ClientSide
  pub at : At w.clients i x

pub record IsServer (w : World) (i : ℕ) : Type 0 where
  pub y : ServerSide
  pub at : At w.servers i y

-- a channel, a request and a subscription that a client's present life had, by number
pub record HadChannel (w : World) (i c : ℕ) : Type 0 where
  pub x : ClientSide
  pub at : At w.clients i x
  pub h : Handle
  pub named : At x.names.channels c h

pub record HadRequest (w : World) (i r : ℕ) : Type 0 where
  pub x : ClientSide
  pub at : At w.clients i x
  pub q : Handle × Intent
  pub named : At x.names.requests r q

pub record HadSubscription (w : World) (i n : ℕ) : Type 0 where
  pub x : ClientSide
  pub at : At w.clients i x
  pub s : Handle × Intent
  pub named : At x.names.subscriptions n s

-- a client that wants a circuit to a server
pub record CanAccept (w : World) (i : ℕ) : Type 0 where
  pub x : ClientSide
  pub at : At w.clients i x
  pub v : WantsFirst w x

-- a circuit whose end at the client is open, and one whose end at the server is
pub record HasClientEnd (w : World) (k : ℕ) : Type 0 where
  pub j : Joined
  pub x : ClientSide
  pub y : ServerSide
  pub joins : Joins w k j x y
  pub is_open : j.lists.client_open ≡ true

pub record HasServerEnd (w : World) (k : ℕ) : Type 0 where
  pub j : Joined
  pub x : ClientSide
  pub y : ServerSide
  pub joins : Joins w k j x y
  pub is_open : j.lists.server_open ≡ true

-- The event can be done: what it names is there, the end that receives, steps or is cut is open, as
-- many bytes wait, and the moment does not go back.
abbrev pub CanBe : World → Event → Type 0
CanBe w (event.Open i name priority) = IsClient w i
CanBe w (event.Clear i c) = HadChannel w i c
CanBe w (event.Read i c data_type count) = HadChannel w i c
CanBe w (event.Write i c e) = HadChannel w i c
CanBe w (event.WriteNotify i c e) = HadChannel w i c
CanBe w (event.Subscribe i c data_type count mask) = HadChannel w i c
CanBe w (event.Unsubscribe i n) = HadSubscription w i n
CanBe w (event.Collect i r) = HadRequest w i r
CanBe w (event.GiveUp i r) = HadRequest w i r
CanBe w (event.ClientDatagram i from bytes) = IsClient w i
CanBe w (event.ServerDatagram i from bytes) = IsServer w i
CanBe w (event.Accept i) = CanAccept w i
CanBe w (event.Up k n) = (at : HasServerEnd w k) × (n ≤ length (waiting_up at.x at.j))
CanBe w (event.Down k n) = (at : HasClientEnd w k) × (n ≤ length (waiting_down at.y at.j))
CanBe w (event.ServerStep k) = HasServerEnd w k
CanBe w (event.ClientStep k) = HasClientEnd w k
CanBe w (event.Pump k) = HasServerEnd w k
CanBe w (event.CutClient k) = HasClientEnd w k
CanBe w (event.CutServer k) = HasServerEnd w k
CanBe w (event.ClientRestart i) = IsClient w i
CanBe w (event.ServerRestart i) = IsServer w i
CanBe w (event.Post i name e mask) = IsServer w i
CanBe w (event.Finish i name) = IsServer w i
CanBe w (event.Remove i name) = IsServer w i
CanBe w (event.Add i r) = IsServer w i
CanBe w (event.Tick moment) = w.moment ≤ moment

-- A moment is handed to these clients, in order.
abbrev pub TicksAll : (moment : ℕ) → World → List ℕ → World → Type 0
TicksAll moment w clients new = FoldsTo (TicksOne moment) w clients new

-- the numbers of clients below n, in order
abbrev pub clients_below : ℕ → List ℕ
clients_below n = range_with_len 0 n

-- What an event that can be done may leave.
abbrev pub Leaves : (w : World) → (e : Event) → CanBe w e → World → Type 0
Leaves w (event.Open i name priority) at new = HappensOpen w i at.x name priority new
Leaves w (event.Clear i c) at new = HappensClear w i at.x c at.h new
Leaves w (event.Read i c data_type count) at new = HappensRead w i at.x c at.h data_type count new
Leaves w (event.Write i c e) at new = HappensWrite w i at.x c at.h e new
Leaves w (event.WriteNotify i c e) at new = HappensWriteNotify w i at.x c at.h e new
Leaves w (event.Subscribe i c data_type count mask) at new =
    HappensSubscribe w i at.x c at.h data_type count mask new
Leaves w (event.Unsubscribe i n) at new = HappensUnsubscribe w i at.x at.s new
Leaves w (event.Collect i r) at new = HappensHandingOut w at.x r at.q.1 (Collected r) new
Leaves w (event.GiveUp i r) at new = HappensHandingOut w at.x r at.q.1 (GaveUp r) new
Leaves w (event.ClientDatagram i from bytes) at new = HappensClientDatagram w i at.x from bytes new
Leaves w (event.ServerDatagram i from bytes) at new = HappensServerDatagram w at.y bytes new
Leaves w (event.Accept i) at new = HappensAccept w i at.x at.v new
Leaves w (event.Up k n) at new = HappensUp w k n at.0.j at.0.x at.0.y new
Leaves w (event.Down k n) at new = HappensDown w k n at.0.j at.0.x at.0.y new
Leaves w (event.ServerStep k) at new = HappensServerStep w k at.j at.y new
Leaves w (event.ClientStep k) at new = HappensClientStep w k at.j at.x new
Leaves w (event.Pump k) at new = HappensPump w k at.j at.y new
Leaves w (event.CutClient k) at new = HappensCutClient w k at.j at.x new
Leaves w (event.CutServer k) at new = HappensCutServer w k at.j at.y new
Leaves w (event.ClientRestart i) at new = HappensClientRestart w i at.x new
Leaves w (event.ServerRestart i) at new = HappensServerRestart w i at.y new
Leaves w (event.Post i name e mask) at new = HappensPost w i at.y name e mask new
Leaves w (event.Finish i name) at new = HappensFinish w i at.y name new
Leaves w (event.Remove i name) at new = HappensRemove w i at.y name new
Leaves w (event.Add i r) at new = HappensAdd w i at.y r new
Leaves w (event.Tick moment) at new =
    (mid : World) × TicksAll moment w (clients_below (length w.clients)) mid
    × (new ≡ record mid { moment = moment })

-- From w, this event may leave new.
abbrev pub Happens : World → Event → World → Type 0
Happens w e new = (at : CanBe w e) × Leaves w e at new

-- ---- runs

-- A tick was handed to a beginning of the clients, and the next one refused it out of memory.
abbrev pub TicksBefore : (moment : ℕ) → World → World → Type 0
TicksBefore moment mid w =
    (n : ℕ) × (x : ClientSide) × (mid.moment ≤ moment) × TicksAll moment mid (clients_below n) w
    × At mid.clients n x
    × ClientTicks x.core moment (Err OutOfMemory) [] x.core

-- What the event at which a run stopped left, if there was one: nothing, or the
-- beginning of a tick.
abbrev pub StopsAt : World → Option Event → World → Type 0
StopsAt mid (Some (event.Tick moment)) w = (w ≡ mid) ⊎ TicksBefore moment mid w
StopsAt mid stopped w = w ≡ mid

-- From the opening world, these events in a row lead to this one, with the event at which the run
-- stopped, if there was one.
abbrev pub Runs : Setting → List Event → (stopped : Option Event) → World → Type 0
Runs setting es stopped w =
    (mid : World) × FoldsTo Happens (opening setting) es mid × StopsAt mid stopped w

-- The values in these events are values, a record that is added has no alarm and no stamp yet, and
-- masks have a bit. All this follows from the types of the program.
abbrev pub IsEvent : Event → Type 0
IsEvent (event.Write i c e) = IsValue e
IsEvent (event.WriteNotify i c e) = IsValue e
IsEvent (event.Post i name e mask) = IsHeldValue e × HasEvent mask
IsEvent (event.Subscribe i c data_type count mask) = HasEvent mask × (mask < 65536)
IsEvent (event.Add i r) = IsHeldValue r.value × (r.meta ≡ unset)
IsEvent e = Unit {0}

abbrev pub AreEvents : List Event → Type 0
AreEvents es = (i : ℕ) (e : Event) → At es i e → IsEvent e
