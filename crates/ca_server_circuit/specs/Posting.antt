-- Working: a post to a record, on one circuit.
use Rattle.std.specs.Prelude.{ℕ, ◌≡◌, ◌⊎◌, Bool, Option, true}
use Rattle.ca_arena.specs.declared.handle.Handle.{Handle}
use Rattle.ca_records.specs.Puts.{Record}
use Rattle.ca_records.specs.Record.{RecordState}
use Rattle.ca_records.specs.Store.{HasAt, Store}
use Rattle.ca_model.specs.Ends as why
use Rattle.ca_model.specs.Server.{ServerCircuit, ServerEnd, with_post}
use Rattle.ca_model.specs.Server as server
use Rattle.ca_model.specs.ServerSteps.{is_concerned}
use Rattle.ca_model.specs.Speech.{Stored}
use Rattle.ca_server_circuit.specs.Circuits.{watches}
use Rattle.ca_server_circuit.specs.Ending.{WithdrawsAll}
use Rattle.ca_server_circuit.specs.Subscribing.{events_of}
use Rattle.ca_server_subscriptions.specs.Sharing.{IsCopy, Shared}
use Rattle.ca_server_subscriptions.specs.Subscribed.{HasRoom}

-- the value of a record, with its alarm and its time stamp
abbrev pub stored_of : RecordState → Stored
stored_of r = record { value = r.value; meta = r.meta }

-- an end after a post of the value of a record
abbrev pub posted : Record → (mask : ℕ) → ServerEnd → ServerEnd
posted r mask e = with_post r.state.name mask (stored_of r.state) e

-- A post to the record at a place: the end has its updates, or has ended out of memory for one, if
-- the post concerns it.
abbrev pub PostsAt : Handle → (place : ℕ) → (mask : ℕ) → ServerCircuit → Store → ServerCircuit
    → Store → Type 0
PostsAt h place mask (server.Open e) s new t =
    (r : Record) × HasAt s place r
    × (((new ≡ server.Open (posted r mask e)) × HasRoom (events_of (posted r mask e)) × (t ≡ s))
    ⊎ ((is_concerned r.state.name mask (server.Open e) ≡ true)
    × (new ≡ server.Ended why.OutOfMemory e.link.output) × WithdrawsAll h s t))
PostsAt h place mask (server.Ended w left) s new t = (new ≡ server.Ended w left) × (t ≡ s)

-- whether a circuit has a subscription on the record at a place
abbrev pub WatchesAt : (place : ℕ) → ServerCircuit → Store → (on : Bool) → Type 0
WatchesAt place c s on = (r : Record) × HasAt s place r × (on ≡ watches r.state.name c)

-- what is shared, if something is, is a copy of the value of the record at a place
abbrev pub IsCopyAt : (place : ℕ) → Store → Option Shared → Type 0
IsCopyAt place s shared = (r : Record) × HasAt s place r × IsCopy (stored_of r.state) shared
