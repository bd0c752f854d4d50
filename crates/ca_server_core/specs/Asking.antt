-- Vocabulary: what a caller asks of a server between its calls.
use Rattle.std.specs.Prelude.{ℕ, ◌≡◌, List, [], ◌∷◌, Option, Some, None, if◌then◌else◌, is_some}
use Rattle.std.specs.Prelude.{option_map}
use Rattle.ca_arena.specs.declared.handle.Handle.{Handle}
use Rattle.ca_dbr.specs.Elements.{Elements}
use Rattle.ca_records.specs.declared.puts.Put.{Put}
use Rattle.ca_records.specs.Puts.{Record, WaitingPut, record_named}
use Rattle.ca_records.specs.Record.{RecordState}
use Rattle.ca_model.specs.Ends.{Peer}
use Rattle.ca_model.specs.Server.{Server, ServerCircuit, ServerEnd, Subscription}
use Rattle.ca_model.specs.ServerSteps.{HasEnd}
use Rattle.ca_model.specs.Speech.{In}
use Rattle.ca_server_watchers.specs.Watching.{IsAmong}
use Rattle.ca_server_circuit.specs.Peeking.{NamesAt, peer_on}

-- the circuit of the put that waits longest
abbrev pub first_circuit : List WaitingPut → Option Handle
first_circuit [] = None
first_circuit (p ∷ ps) = Some p.put.circuit

-- the same for a record, if there is one
abbrev pub circuit_next : Option Record → Option Handle
circuit_next None = None
circuit_next (Some r) = first_circuit r.waiting

-- `first_waiting`: the circuit of the put that waits longest for the record of this name
abbrev pub first_waiting : Server → List ℕ → Option Handle
first_waiting y name = circuit_next (record_named y.records name)

-- the circuit of the put that makes a record busy
abbrev pub circuit_busy : Option Record → Option Handle
circuit_busy None = None
circuit_busy (Some r) = option_map (λ (p : Put). p.circuit) r.busy

-- `busy_circuit`: the circuit of the put that makes the record of this name busy
abbrev pub busy_circuit : Server → List ℕ → Option Handle
busy_circuit y name = circuit_busy (record_named y.records name)

-- `watching`: each circuit that has a subscription on the record of this name is one of these
abbrev pub AreAllAmong : Server → List ℕ → List Handle → Type 0
AreAllAmong y name hs =
    (h : Handle) (e : ServerEnd) (s : Subscription) → HasEnd y h e → In e.subscriptions s
    → s.name ≡ name → IsAmong hs h

-- the value of a record that a put makes busy
abbrev pub value_busy : Option Record → Option Elements
value_busy None = None
value_busy (Some r) = if is_some r.busy then Some r.state.value else None

-- `busy_value`: the value of the record of this name, if a put makes it busy
abbrev pub busy_value : Server → List ℕ → Option Elements
busy_value y name = value_busy (record_named y.records name)

-- a record as it is now, if there is one
abbrev pub state_in : Option Record → Option RecordState
state_in None = None
state_in (Some r) = Some r.state

-- `record`: the record of this name as it is now, with its value, the alarm of that and its stamp
abbrev pub record_now : Server → List ℕ → Option RecordState
record_now y name = state_in (record_named y.records name)

-- `user`, `host`: how the client on the circuit under a handle named itself, if its end is open
abbrev pub peer_under : Option ServerCircuit → Option Peer
peer_under (Some c) = peer_on c
peer_under None = None

-- The SID stands for an open channel of this circuit whose record was not removed, which has
-- this name; or for none.
abbrev pub NamesUnder : Option ServerCircuit → (sid : ℕ) → Option (List ℕ) → Type 0
NamesUnder (Some c) sid name = NamesAt c sid name
NamesUnder None sid name = name ≡ None
