-- Working: what holds of a server's core so that all that it sends are messages.
use Rattle.std.specs.Prelude.{ℕ, ◌≡◌, ◌<◌, ◌≤◌, ◌⊎◌, ◌^◌, List, [], Some}
use Rattle.ca_arena.specs.declared.handle.Handle.{Handle}
use Rattle.ca_dbr.specs.Elements.{Elements, count_of}
use Rattle.ca_dbr.specs.Held.{IsHeldValue}
use Rattle.ca_queue.specs.declared.entry.SubKey.{SubKey}
use Rattle.ca_queue.specs.Queue.{Queue}
use Rattle.ca_records.specs.declared.puts.Put.{Put}
use Rattle.ca_records.specs.Puts.{Record, WaitingPut}
use Rattle.ca_text.specs.declared.command.Command.TheVariants as command
use Rattle.ca_text.specs.Limits.{element_limit}
use Rattle.ca_text.specs.Place.{At}
use Rattle.ca_wire.specs.declared.requests.Wanted.{Wanted}
use Rattle.ca_model.specs.History.{Reply, Told}
use Rattle.ca_model.specs.Server.{OpenChannel, Server, ServerEnd, Subscription}
use Rattle.ca_model.specs.ServerSteps.{HasEnd}
use Rattle.ca_model.specs.Speech.{Is, Stored}
use Rattle.ca_model.specs.World.{Joined, ServerSide, World}
use Rattle.ca_laws_parts.specs.Speaks.{AllHeld}
use Rattle.ca_laws_parts.specs.Worlds.{ServersSpeak}

-- So it is of each of a list.
abbrev pub AllAt : {A : Type 0} → (A → Type 0) → List A → Type 0
AllAt {A} P xs = (i : ℕ) (x : A) → At xs i x → P x

-- a value that a record may have: one element at least
abbrev pub ValueFits : Elements → Type 0
ValueFits e = IsHeldValue e × (0 < count_of e) × (count_of e ≤ element_limit)

-- a put whose type, count and IOID fit messages
abbrev pub PutFits : Put → Type 0
PutFits p = (p.data_type < 2 ^ 16) × (p.count < 2 ^ 32) × (p.ioid < 2 ^ 32)

-- a record whose value does, with its puts
pub record RecordFits (r : Record) : Type 0 where
  pub count : r.state.count ≤ element_limit
  pub value : ValueFits r.state.value
  pub busy : (p : Put) → r.busy ≡ Some p → PutFits p
  pub waiting : AllAt (λ (w : WaitingPut). PutFits w.put × ValueFits w.value) r.waiting

-- what an EVENT_ADD names
abbrev pub WantedFits : Wanted → Type 0
WantedFits w = (w.data_type < 2 ^ 16) × (w.count ≤ element_limit) × (w.id < 2 ^ 32)

-- a queue of values that do
abbrev pub QueueFits : Queue Stored → Type 0
QueueFits q = AllAt (λ (x : SubKey × Stored). ValueFits x.1.value) q.waiting

-- an open end whose CIDs, subscriptions and queues do
pub record EndFits (e : ServerEnd) : Type 0 where
  pub channels : AllHeld (λ (c : OpenChannel). c.cid < 2 ^ 32) e.channels
  pub subscriptions : AllAt (λ (s : Subscription). WantedFits s.wanted) e.subscriptions
  pub queues : AllAt QueueFits e.queues

pub record ServerFits (y : Server) : Type 0 where
  pub port : y.port < 2 ^ 16
  pub records : AllAt RecordFits y.records
  pub ends : (h : Handle) (e : ServerEnd) → HasEnd y h e → EndFits e

-- What servers sent are messages, and each server's core fits messages.
pub record ServersFit (w : World) : Type 0 where
  pub sent : ServersSpeak w
  pub cores : (i : ℕ) (y : ServerSide) → At w.servers i y → ServerFits y.core

-- A message that a server told is a reply, or a SERVER_DISCONN, or an EVENT_ADD with a payload.
abbrev pub IsCaused : Told → Type 0
IsCaused t =
    (t.cause ≡ Reply)
    ⊎ (Is command.ServerDisconnect t.message
    ⊎ (Is command.EventAdd t.message × (t.message.payload ≡ [] → ⊥)))

-- So it is of all that servers told.
pub record AllCaused (w : World) : Type 0 where
  pub each : (n : ℕ) (c : Joined) → At w.circuits n c → AllAt IsCaused c.lists.down
