-- Working: a step of a client's end of a circuit.
use Rattle.std.specs.Prelude.{ℕ, ◌≡◌, ◌+◌, ◌≤◌, List, [], Ok, Err, Result, Vec, length, map}
use Rattle.std.specs.Prelude.{slice_set, vec_capacity, vec_len}
use Rattle.std.specs.declared.alloc.Global.{Global}
use Rattle.ca_arena.specs.declared.handle.Handle.{Handle}
use Rattle.ca_text.specs.declared.refusal.Refusal.{Refusal}
use Rattle.ca_text.specs.declared.refusal.Refusal.TheVariants.{OutOfMemory}
use Rattle.ca_text.specs.Place.{At}
use Rattle.ca_client_core.specs.declared.for_histories.Sending.{Sending as Foretold}
use Rattle.ca_client_core.specs.ForHistories.{SendsNext}
use Rattle.ca_model.specs.Answers.{Closing, Notice, Sending, Stepped}
use Rattle.ca_model.specs.Answers as answer
use Rattle.ca_model.specs.Client.{Client}
use Rattle.ca_model.specs.ClientEnds.{ClientSteps}
use Rattle.ca_model.specs.History.{Line, OfCircuit, Step}
use Rattle.ca_model.specs.ClientEvents.{about_at, client_closed, heard_in, lines_of}
use Rattle.ca_model.specs.World.{ClientSide, Joined, grown, log_length}
use Rattle.ca_world_data.specs.declared.client.ClientSide as real
use Rattle.ca_world_data.specs.declared.history.Intent.{Intent}
use Rattle.ca_world_data.specs.declared.history.Line.{Line as Written}
use Rattle.ca_world_data.specs.declared.joined.Joined.{Joined as Opened}
use Rattle.ca_world_data.specs.Logs.{HasRoom}
use Rattle.ca_world_data.specs.Seen.{intent_of}
use Rattle.ca_world_data.specs.Sends.{HasRoomForAll}
use Rattle.ca_world_data.specs.Speaking.{sent_up}

-- what the next message that comes to the client is about
abbrev pub IsAbout : Joined → Intent → Type 0
IsAbout j meant = intent_of meant ≡ about_at j.lists (length j.lists.heard)

-- there is room for one more step of the client's end of this circuit
abbrev pub HasRoomHeard : (k : ℕ) → List Opened → Type 0
HasRoomHeard k ks =
    (j : Opened) → At ks k j → vec_len j.lists.heard + 1 ≤ vec_capacity j.lists.heard

-- the step of the client's end of this circuit, when its log was so long before and after it
abbrev pub step_at : Joined → (logged after : ℕ) → Step
step_at j logged after = record { sent = length j.lists.up; logged = logged; after = after }

-- the client's end of circuit k made this step
abbrev pub IsHeard : (k logged after : ℕ) → List Joined → List Joined → Type 0
IsHeard k logged after ks ks' =
    (j : Joined) → At ks k j → ks' ≡ slice_set ks k (heard_in (step_at j logged after) j)

-- what the end is about to send is known, and there is room for that, for its step, and for n lines
pub record IsReadyToStep (i k : ℕ) (x : real.ClientSide) (lines : ℕ) (sent : List Foretold)
    (ks : List Opened) (logs : List (Vec Written Global)) : Type 0 where
  pub foretold : (j : Opened) → At ks k j → SendsNext x.core j.at_client sent
  pub logs_room : HasRoom lines x.life logs
  pub messages : HasRoomForAll i sent ks
  pub heard : HasRoomHeard k ks

-- the notices of a step
abbrev pub notices_in : Stepped → List Notice
notices_in (answer.Notices told) = told
notices_in answer.NeedBytes = []
notices_in (answer.Closed c) = c.notices

-- a step on this circuit tells n notices at most
abbrev pub TellsAtMost : (lines : ℕ) → Client → Handle → Type 0
TellsAtMost lines x c =
    (did : Stepped) (sent : List Sending) (new : Client) → ClientSteps x c did sent new
    → length (notices_in did) ≤ lines

-- what the step of the end of circuit k, which client i has, leaves of the logs and of the circuits
abbrev pub LeavesStepped : (i k : ℕ) → Joined → ClientSide → Stepped → List Sending
    → List (List Line) → List Joined → List (List Line) → List Joined → Type 0
LeavesStepped i k j x answer.NeedBytes sent logs ks logs' ks' = (logs' ≡ logs) × (ks' ≡ ks)
LeavesStepped i k j x (answer.Closed c) sent logs ks logs' ks' =
    (logs' ≡ grown x.life (lines_of OfCircuit x.names c.notices) logs)
    × (ks' ≡ slice_set ks k (client_closed c.left j))
LeavesStepped i k j x (answer.Notices notices) sent logs ks logs' ks' =
    let lines : List Line = lines_of (about_at j.lists (length j.lists.heard)) x.names notices in
    let logged : ℕ = log_length x.life logs in
    (logs' ≡ grown x.life lines logs)
    × (ks' ≡ map (sent_up i x.names sent)
    (slice_set ks k (heard_in (step_at j logged (logged + length lines)) j)))

-- The end of circuit k at client i stepped; without memory nothing changed.
abbrev pub StepsClient : (i k : ℕ) → Joined → ClientSide → List (List Line) → List Joined
    → Result (Unit {0}) Refusal → ClientSide → List (List Line) → List Joined → Type 0
StepsClient i k j x logs ks (Ok _) x' logs' ks' =
    (did : Stepped) × (sent : List Sending) × ClientSteps x.core j.at_client did sent x'.core
    × (x' ≡ record x { core = x'.core })
    × LeavesStepped i k j x did sent logs ks logs' ks'
StepsClient i k j x logs ks (Err OutOfMemory) x' logs' ks' = (x' ≡ x) × (logs' ≡ logs) × (ks' ≡ ks)
StepsClient i k j x logs ks (Err _) x' logs' ks' = ⊥

-- the same, told of the circuit that is there
abbrev pub StepsOn : (i k : ℕ) → ClientSide → List (List Line) → List Joined
    → Result (Unit {0}) Refusal → ClientSide → List (List Line) → List Joined → Type 0
StepsOn i k x logs ks r x' logs' ks' =
    (j : Joined) → At ks k j → StepsClient i k j x logs ks r x' logs' ks'

abbrev pub HearsOn : (i k : ℕ) → ClientSide → List Notice → List Sending → List (List Line)
    → List Joined → List (List Line) → List Joined → Type 0
HearsOn i k x notices sent logs ks logs' ks' =
    (j : Joined) → At ks k j → LeavesStepped i k j x (answer.Notices notices) sent logs ks logs' ks'

abbrev pub EndsOn : (k : ℕ) → ClientSide → Closing → List (List Line) → List Joined
    → List (List Line) → List Joined → Type 0
EndsOn k x c logs ks logs' ks' =
    (j : Joined) → At ks k j → LeavesStepped 0 k j x (answer.Closed c) [] logs ks logs' ks'

abbrev pub TellsFew : (lines k : ℕ) → ClientSide → List Joined → Type 0
TellsFew lines k x ks = (j : Joined) → At ks k j → TellsAtMost lines x.core j.at_client
