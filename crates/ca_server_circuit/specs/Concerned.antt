-- Vocabulary: what a recorder of histories asks of one circuit.
use Rattle.std.specs.Prelude.{ℕ, ◌≡◌, ◌≤◌, List, [], Option, Some, None, length, map}
use Rattle.ca_arena.specs.declared.handle.Handle.{Handle}
use Rattle.ca_ids.specs.Wire.{wire_of}
use Rattle.ca_wire.specs.Fields.{Fields}
use Rattle.ca_wire.specs.declared.requests.Wanted.{Wanted}
use Rattle.ca_model.specs.Server.{OpenChannel, ServerCircuit, Subscription}
use Rattle.ca_model.specs.Server as server
use Rattle.ca_model.specs.ServerCalls.{channels_of}
use Rattle.ca_model.specs.Speech.{Stored}
use Rattle.ca_model.specs.Updates.{ShowsTo}
use Rattle.ca_server_circuit.specs.Subscribing.{events_of}
use Rattle.ca_server_subscriptions.specs.Concerned.{ConcernsAt}
use Rattle.ca_server_subscriptions.specs.Pumping.{WaitsAt}
use Rattle.ca_server_subscriptions.specs.Subscribed.{Subscribed}

-- A post concerns the subscription at this place of an open end, which the queue at that place has;
-- or it concerns none there.
abbrev pub ConcernsOn : (name : List ℕ) → (mask : ℕ) → (place : ℕ) → ServerCircuit → Option ℕ
    → Type 0
ConcernsOn name mask place (server.Open e) queue =
    ConcernsAt name mask place e.subscriptions e.queues queue
ConcernsOn name mask place (server.Ended w left) queue = queue ≡ None

-- An update that shows this to whoever asked so has at most n bytes of payload.
abbrev pub ShowsWithin : Wanted → Stored → (n : ℕ) → Type 0
ShowsWithin w v n = (m : Fields) → ShowsTo w v m → length m.payload ≤ n

-- The update that has this number from the front of the queue at this place has at most this many
-- bytes of payload, whenever it is shown.
abbrev pub SizesAt : Subscribed → (place index : ℕ) → Option ℕ → Type 0
SizesAt s place index size =
    (x : Subscription) (v : Stored) → WaitsAt s place index x v
    → (n : ℕ) × (size ≡ Some n) × ShowsWithin x.wanted v n

-- the same on a circuit, if its end is open
abbrev pub SizesOn : ServerCircuit → (place index : ℕ) → Option ℕ → Type 0
SizesOn (server.Open e) place index size = SizesAt (events_of e) place index size
SizesOn (server.Ended w left) place index size = Unit {0}

-- the bytes that wait at an open end, or that one left which has ended
abbrev pub bytes_on : ServerCircuit → List ℕ
bytes_on (server.Open e) = e.link.output
bytes_on (server.Ended w left) = left

-- the SID of a channel, and its CID
abbrev pub ids_of : Handle × OpenChannel → ℕ × ℕ
ids_of c = (wire_of c.0, c.1.cid)

-- those of the channels to the record of this name at an open end, in order of index
abbrev pub channels_on : (name : List ℕ) → ServerCircuit → List (ℕ × ℕ)
channels_on name (server.Open e) = map ids_of (channels_of name e)
channels_on name (server.Ended w left) = []
