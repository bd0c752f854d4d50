-- Working: an end that takes no message, for whose step there is no memory.
use Rattle.std.specs.Prelude.{ℕ, ◌≡◌, ◌+◌, ◌++◌, ◌≤◌, Bool, true, if◌then◌else◌, List, [], ◌∷◌}
use Rattle.std.specs.Prelude.{OnErr, Ok, Err, Result, Some, drop, length}
use Rattle.ca_text.specs.declared.refusal.Refusal.{Refusal}
use Rattle.ca_text.specs.Place.{At}
use Rattle.ca_wire.specs.Fields.{Fields}
use Rattle.ca_wire.specs.Message.{spelled, spelling}
use Rattle.ca_model.specs.Answers as answer
use Rattle.ca_model.specs.Client.{Client, Connection, connection_at}
use Rattle.ca_model.specs.ClientEnds.{ClientSteps}
use Rattle.ca_model.specs.History as history
use Rattle.ca_model.specs.Server.{Server, ServerEnd}
use Rattle.ca_model.specs.ServerSteps.{HasEnd, StepsOpen}
use Rattle.ca_model.specs.ServerSteps as stepped
use Rattle.ca_model.specs.World.{ClientSide, Joined}
use Rattle.ca_laws_parts.specs.Streams.{AreMessages}
use Rattle.ca_laws_parts.specs.Worlds.{sent_down, sent_up}
use Rattle.ca_world.specs.StepParts.{StepsServer}
use Rattle.ca_world_data.specs.declared.history.Sent.{Sent}
use Rattle.ca_world_data.specs.declared.history.Told.{Told}
use Rattle.ca_world_data.specs.declared.server.ServerSide.{ServerSide}
use Rattle.ca_world_data.specs.ClientSteps.{StepsOn}
use Rattle.ca_world_data.specs.Does.{MayHear, MayTake}

-- how many bytes these messages of a client are, and these of a server
abbrev pub bytes_up : List Sent → ℕ
bytes_up [] = 0
bytes_up (s ∷ ss) = length (spelling s.message) + bytes_up ss

abbrev pub bytes_down : List Told → ℕ
bytes_down [] = 0
bytes_down (t ∷ ts) = length (spelling t.message) + bytes_down ts

-- What came to an end, with these bytes after it, is the messages from this place on that were sent
-- to it. At least `waiting` of these bytes wait at the other end, and all if that is open.
pub record Comes (waiting : ℕ) (came : List ℕ) (ms : List Fields) (read : ℕ)
    (is_open : Bool) : Type 0 where
  pub tail : List ℕ
  pub are : came ++ tail ≡ spelled (drop read ms)
  pub good : AreMessages ms
  pub many : waiting ≤ length tail
  pub all : is_open ≡ true → length tail ≡ waiting

-- the same of the server's end of a circuit
pub record ComesUp (waiting : ℕ) (core : Server) (j : Joined) : Type 0 where
  pub e : ServerEnd
  pub has : HasEnd core j.at_server e
  pub comes : Comes waiting e.link.input.bytes (sent_up j) (length j.lists.handled)
      j.lists.client_open

-- a step of it takes no message
pub record RestsUp (core : Server) (j : Joined) : Type 0 where
  pub e : ServerEnd
  pub has : HasEnd core j.at_server e
  pub full : Bool
  pub steps : StepsOpen core j.at_server e
      (if full then stepped.OutputFull else stepped.NeedBytes) core

-- A step of the server's end of circuit k, which lacks memory only if it may take a message.
abbrev pub StepsOrRests : (k : ℕ) → ServerSide → List Joined → List (List history.Entry)
    → Result (Unit {0}) Refusal → ServerSide → List Joined → List (List history.Entry) → Type 0
StepsOrRests k y ks logs (Ok u) y' ks' logs' = StepsServer k y ks logs (Ok u) y' ks' logs'
StepsOrRests k y ks logs (Err e) y' ks' logs' =
    ((j : Joined) → At ks k j → MayTake y.core j) × StepsServer k y ks logs (Err e) y' ks' logs'

-- the same of the client's end
pub record ComesDown (waiting : ℕ) (core : Client) (j : Joined) : Type 0 where
  pub d : Connection
  pub connected : connection_at core j.at_client ≡ Some d
  pub comes : Comes waiting d.link.input.bytes (sent_down j) (length j.lists.heard)
      j.lists.server_open

abbrev pub RestsDown : Client → Joined → Type 0
RestsDown core j = ClientSteps core j.at_client answer.NeedBytes [] core

-- A step of the end of circuit k at client i, which lacks memory only if it may take a message.
abbrev pub HearsOrRests : (i k : ℕ) → ClientSide → List (List history.Line) → List Joined
    → Result (Unit {0}) Refusal → ClientSide → List (List history.Line) → List Joined → Type 0
HearsOrRests i k x logs ks r x' logs' ks' =
    StepsOn i k x logs ks r x' logs' ks' × OnErr r ((j : Joined) → At ks k j → MayHear x.core j)
