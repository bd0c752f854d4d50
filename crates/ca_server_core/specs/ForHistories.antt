-- Vocabulary: what a recorder of histories asks of a server.
use Rattle.std.specs.Prelude.{ℕ, ◌≡◌, ◌<◌, ◌≤◌, Bool, true, false, List, [], Option, Some, None}
use Rattle.std.specs.Prelude.{option_map, slice_get}
use Rattle.ca_arena.specs.declared.handle.Handle.{Handle}
use Rattle.ca_ids.specs.Table.{Table, under}
use Rattle.ca_queue.specs.Circuit.{AreInOne, HasAt}
use Rattle.ca_records.specs.declared.puts.Put.{Put}
use Rattle.ca_records.specs.Puts.{Record, WaitingPut}
use Rattle.ca_text.specs.Place.{At}
use Rattle.ca_model.specs.Server.{Ended, Open, Server, ServerCircuit, Subscription, concerns}
use Rattle.ca_model.specs.Server.{key_of}
use Rattle.ca_model.specs.ServerSteps.{without_puts_of}
use Rattle.ca_server_circuit.specs.Concerned.{SizesOn, channels_on}

-- the end of a circuit has ended in a call that did not report it
abbrev pub is_over : Option ServerCircuit → Bool
is_over (Some (Open e)) = false
is_over (Some (Ended w left)) = true
is_over None = false

-- the circuit of this index whose end is over, or none
abbrev pub IsOverAt : Table ServerCircuit → (index : ℕ) → Option Handle → Type 0
IsOverAt t n (Some h) = (h.index ≡ n) × (is_over (under t h) ≡ true)
IsOverAt t n None = (h : Handle) → h.index ≡ n → is_over (under t h) ≡ false

-- the same of a server, for which no put of that circuit waits
abbrev pub EndsAt : Server → (index : ℕ) → Option Handle → Type 0
EndsAt y n (Some h) = IsOverAt y.circuits n (Some h) × (without_puts_of h y ≡ y)
EndsAt y n None = IsOverAt y.circuits n None

-- A post to the record of this name, with this mask, concerns the subscription at this place of an
-- open end, which the queue at that place has and no other; or it concerns none there.
abbrev pub ConcernsUnder : (name : List ℕ) → (mask : ℕ) → (place : ℕ) → Option ServerCircuit
    → Option ℕ → Type 0
ConcernsUnder name mask place (Some (Open e)) (Some queue) =
    (s : Subscription) × At e.subscriptions place s × (concerns name mask s ≡ true)
    × HasAt e.queues queue (key_of s) × AreInOne e.queues
ConcernsUnder name mask place (Some (Open e)) None =
    (s : Subscription) → At e.subscriptions place s → concerns name mask s ≡ false
ConcernsUnder name mask place (Some (Ended w left)) queue = queue ≡ None
ConcernsUnder name mask place None queue = queue ≡ None

-- The update that has this number from the front of the queue at this place of an open end has at
-- most this many bytes of payload, whenever it is shown.
abbrev pub SizesUnder : Option ServerCircuit → (place index : ℕ) → Option ℕ → Type 0
SizesUnder (Some c) place index size = SizesOn c place index size
SizesUnder None place index size = Unit {0}

-- the bytes that wait at the end under a handle, or that it left if it has ended
abbrev pub bytes_under : Option ServerCircuit → List ℕ
bytes_under (Some (Open e)) = e.link.output
bytes_under (Some (Ended w left)) = left
bytes_under None = []

-- no two of these records have one name
abbrev pub AreNamedApart : List Record → Type 0
AreNamedApart records =
    (i j : ℕ) (r s : Record) → At records i r → At records j s → r.state.name ≡ s.state.name → i ≡ j

-- Of these records, if no two have one name, that of the first name comes before that
-- of the other, or not.
abbrev pub ComesBefore : List Record → (name other : List ℕ) → Bool → Type 0
ComesBefore records name other before =
    AreNamedApart records → (i j : ℕ) (r s : Record) → At records i r → At records j s
    → r.state.name ≡ name → s.state.name ≡ other
    → (before ≡ true → i < j) × (before ≡ false → j ≤ i)

-- the SID and the CID of each channel to the record of this name at the open end under a
-- handle, in order of index
abbrev pub channels_under : (name : List ℕ) → Option ServerCircuit → List (ℕ × ℕ)
channels_under name (Some c) = channels_on name c
channels_under name None = []

-- the put that waits for a record after n others, if there is one
abbrev pub put_in : Option Record → (place : ℕ) → Option Put
put_in (Some r) place = option_map (λ (w : WaitingPut). w.put) (slice_get r.waiting place)
put_in None place = None
