-- Working: a circuit as the statement has it, and what the calls of one answer and leave.
use Rattle.std.specs.Prelude.{ℕ, ◌≡◌, ◌≢◌, true, false, List, [], Some, None, Ok, Err, Result, Bool}
use Rattle.std.specs.Prelude.{Option}
use Rattle.ca_arena.specs.declared.handle.Handle.{Handle}
use Rattle.ca_link.specs.Calls.{IsOpen}
use Rattle.ca_link.specs.Link.{with_given, with_handed}
use Rattle.ca_records.specs.Puts.{Record}
use Rattle.ca_text.specs.declared.refusal.Refusal.{Refusal}
use Rattle.ca_text.specs.declared.refusal.Refusal.TheVariants as refusal
use Rattle.ca_model.specs.Server.{ServerCircuit}
use Rattle.ca_model.specs.Server as server
use Rattle.ca_server_circuit.specs.declared.circuit.CircuitState.{CircuitState}
use Rattle.ca_server_circuit.specs.declared.circuit.CircuitState.TheVariants.{Ended, Open}
use Rattle.ca_server_circuit.specs.Sound.{EndIsSound}
use Rattle.ca_server_circuit.specs.Stepping.{why_is}
use Rattle.std.specs.List.{list_any}
use Rattle.ca_server_subscriptions.specs.Subscribed.{is_on}

abbrev pub circuit_of : CircuitState → ServerCircuit
circuit_of (Open e) = server.Open e
circuit_of (Ended cause left) = server.Ended (why_is cause) left

-- no bad header was met at an end that is open
abbrev pub IsLive : ServerCircuit → Type 0
IsLive (server.Open e) = IsOpen e.link
IsLive (server.Ended w left) = Unit {0}

-- what is known of a circuit beside these records
abbrev pub CircuitIsSound : List Record → Handle → ServerCircuit → Type 0
CircuitIsSound rs h (server.Open e) = EndIsSound rs h e
CircuitIsSound rs h (server.Ended w left) = Unit {0}

-- these bytes came
abbrev pub GivesAt : (now : ℕ) → List ℕ → ServerCircuit → Result (Unit {0}) Refusal → ServerCircuit
    → Type 0
GivesAt now bytes (server.Open e) (Ok _) new =
    new ≡ server.Open (record e { link = with_given now bytes e.link })
GivesAt now bytes (server.Open e) (Err refusal.OutOfMemory) new =
    (bytes ≢ []) × (new ≡ server.Open e)
GivesAt now bytes (server.Open e) (Err _) new = ⊥
GivesAt now bytes (server.Ended w left) result new =
    (result ≡ Err refusal.CircuitClosed) × (new ≡ server.Ended w left)

-- the first n bytes that waited were handed over
abbrev pub SendsAt : ℕ → ServerCircuit → ServerCircuit → Type 0
SendsAt n (server.Open e) new = new ≡ server.Open (record e { link = with_handed n e.link })
SendsAt n (server.Ended w left) new = new ≡ server.Ended w left

-- the end is there, and open
abbrev pub is_open : Option ServerCircuit → Bool
is_open (Some (server.Open e)) = true
is_open (Some (server.Ended w left)) = false
is_open None = false

-- its end is open, and has a subscription on the record of this name
abbrev pub watches : List ℕ → ServerCircuit → Bool
watches name (server.Open e) = list_any (is_on name) e.subscriptions
watches name (server.Ended w left) = false
