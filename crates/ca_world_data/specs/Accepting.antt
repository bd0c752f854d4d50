-- Working: a circuit is accepted.
use Rattle.std.specs.Prelude.{ℕ, ◌≡◌, ◌<◌, ◌≤◌, ◌+◌, ◌⊎◌, ◌++◌, true, List, [], ◌∷◌, Option, Some}
use Rattle.std.specs.Prelude.{None, Ok, Err, Result, Vec, if◌then◌else◌, length, map, nat_lt}
use Rattle.std.specs.Prelude.{replicate, slice_set, vec_capacity, vec_len}
use Rattle.std.specs.declared.alloc.Global.{Global}
use Rattle.ca_arena.specs.declared.handle.Handle.{Handle}
use Rattle.ca_queue.specs.Queue.{no_queue}
use Rattle.ca_text.specs.declared.refusal.Refusal.{Refusal}
use Rattle.ca_text.specs.declared.refusal.Refusal.TheVariants as refusal
use Rattle.ca_text.specs.Limits.{arena_slots, circuit_queues}
use Rattle.ca_text.specs.Place.{At}
use Rattle.ca_model.specs.Answers.{Closing, Sending}
use Rattle.ca_model.specs.Client.{farewell}
use Rattle.ca_model.specs.ClientCalls.{WantedCircuit}
use Rattle.ca_model.specs.ClientEnds.{ClientConnects}
use Rattle.ca_model.specs.Ends.{Address, same_address}
use Rattle.ca_model.specs.History as history
use Rattle.ca_model.specs.ServerSteps.{Accepts}
use Rattle.ca_model.specs.ClientEvents.{connected_as, lines_of, new_circuit, place_of}
use Rattle.ca_model.specs.ClientEvents.{closing_notices}
use Rattle.ca_model.specs.World.{grown}
use Rattle.ca_model.specs.World as model
use Rattle.ca_world_data.specs.declared.client.ClientSide.{ClientSide}
use Rattle.ca_world_data.specs.declared.history.Line.{Line}
use Rattle.ca_world_data.specs.declared.joined.Joined.{Joined}
use Rattle.ca_world_data.specs.declared.server.ServerSide.{ServerSide}
use Rattle.ca_world_data.specs.Downs.{with_said}
use Rattle.ca_world_data.specs.Logs.{HasRoom, lines_in}
use Rattle.ca_world_data.specs.Seen.{client_of, joined_of, server_of}
use Rattle.ca_world_data.specs.Speaking.{stamped}

-- ---- which circuit

-- the number of the first server at this address, or how many servers there are
abbrev pub server_at : List ServerSide → Address → ℕ
server_at ys a = place_of (λ (y : ServerSide). same_address y.setting.address a) ys

-- a circuit that is wanted with the number of its server, if one is at its address
abbrev pub served : List ServerSide → WantedCircuit → Option (WantedCircuit × ℕ)
served ys v =
    if nat_lt (server_at ys v.address) (length ys) then Some (v, server_at ys v.address) else None

-- the first of two that is there
abbrev pub first_there : {A : Type 0} → Option A → Option A → Option A
first_there (Some a) o = Some a
first_there None o = o

-- the first of these circuits whose address has a server, with the number of that
abbrev pub first_served : List ServerSide → List WantedCircuit → Option (WantedCircuit × ℕ)
first_served ys [] = None
first_served ys (v ∷ vs) = first_there (served ys v) (first_served ys vs)

-- ---- numbers

-- there may be more numbers, after those that were there
abbrev pub Extends : List ℕ → List ℕ → Type 0
Extends old new = (l n : ℕ) → At old l n → At new l n

-- by this index there is this number now
pub record GainsNumber (old : List ℕ) (index number : ℕ) (new : List ℕ) : Type 0 where
  pub mid : List ℕ
  pub extends : Extends old mid
  pub within : index < length mid
  pub is : new ≡ slice_set mid index number

-- ---- the new circuit

-- a circuit on which nothing was sent, of these lives of a client and of a server
abbrev pub begun_circuit : (client life : ℕ) → Handle → (server server_life : ℕ) → Handle
    → model.Joined
begun_circuit client life at_client server server_life at_server = record {
  client = client;
  server = server;
  at_client = at_client;
  at_server = at_server;
  lists = record {
    client = life;
    server = server_life;
    up = [];
    down = [];
    handled = [];
    heard = [];
    queued = [];
    client_open = true;
    server_open = true;
  };
  left_up = [];
  left_down = [];
  creations = [];
  standing = [];
  queues = replicate circuit_queues no_queue;
}

-- What the client makes of a circuit on which nothing was sent.
pub record ConnectsSide (x : model.ClientSide) (logs : List (List history.Line)) (j : model.Joined)
    (x' : model.ClientSide) (logs' : List (List history.Line)) (j' : model.Joined) : Type 0 where
  pub k : Option Closing
  pub sent : List Sending
  pub connects : ClientConnects x.core j.at_client k sent x'.core
  pub side : x' ≡ record x { core = x'.core }
  pub logged : logs' ≡ grown x.life (lines_of history.OfCircuit x.names (closing_notices k)) logs
  pub circuit : j' ≡ with_said (map (stamped x.names) sent) (connected_as k j)

-- a server that accepts no circuit has no room, or no memory
abbrev pub MayRefuse : Refusal → Type 0
MayRefuse refusal.ArenaFull = Unit {0}
MayRefuse refusal.OutOfMemory = Unit {0}
MayRefuse e = ⊥

-- the event is refused only out of memory
abbrev pub RefusedAs : Refusal → Result (Unit {0}) Refusal → Type 0
RefusedAs refusal.ArenaFull r = r ≡ Ok tt
RefusedAs e r = r ≡ Err refusal.OutOfMemory

-- ---- the event

-- there is room for all that it leaves
pub record HasRoomToAccept (c : Handle) (x : ClientSide) (y : ServerSide) (ks : Vec Joined Global)
    (logs : List (Vec Line Global)) : Type 0 where
  pub client : c.index < length x.circuits.items
  pub server : arena_slots ≤ length y.circuits.items
  pub circuits : vec_len ks + 1 ≤ vec_capacity ks
  pub lines : HasRoom (length (farewell c x.core)) x.life logs

-- nothing changed but the room for numbers
pub record StaysAs (x : ClientSide) (y : ServerSide) (ks : List Joined)
    (logs : List (Vec Line Global)) (x' : ClientSide) (y' : ServerSide) (ks' : List Joined)
    (logs' : List (Vec Line Global)) : Type 0 where
  pub client : client_of x' ≡ client_of x
  pub server : server_of y' ≡ server_of y
  pub circuits : ks' ≡ ks
  pub lines : lines_in logs' ≡ lines_in logs
  pub at_client : Extends x.circuits.items x'.circuits.items
  pub at_server : Extends y.circuits.items y'.circuits.items

-- Server s accepted the circuit that client i has under this handle.
pub record AcceptsDone (i s : ℕ) (c : Handle) (x : ClientSide) (y : ServerSide) (ks : List Joined)
    (logs : List (Vec Line Global)) (x' : ClientSide) (y' : ServerSide) (ks' : List Joined)
    (logs' : List (Vec Line Global)) : Type 0 where
  pub h : Handle
  pub accepts : Accepts y.core (Ok h) y'.core
  pub j : Joined
  pub connects : ConnectsSide (client_of x) (lines_in logs)
      (new_circuit i (client_of x) c s (server_of y) h) (client_of x') (lines_in logs')
      (joined_of j)
  pub server : server_of y' ≡ record (server_of y) { core = y'.core }
  pub circuits : ks' ≡ ks ++ j ∷ []
  pub at_client : GainsNumber x.circuits.items c.index (length ks) x'.circuits.items
  pub at_server : GainsNumber y.circuits.items h.index (length ks) y'.circuits.items

-- It was accepted; or the server has no room for it; or there was no memory.
abbrev pub AcceptsOn : (i s : ℕ) → Handle → ClientSide → ServerSide → List Joined
    → List (Vec Line Global) → Result (Unit {0}) Refusal → ClientSide → ServerSide → List Joined
    → List (Vec Line Global) → Type 0
AcceptsOn i s c x y ks logs (Ok _) x' y' ks' logs' =
    AcceptsDone i s c x y ks logs x' y' ks' logs'
    ⊎ (Accepts y.core (Err refusal.ArenaFull) y.core × StaysAs x y ks logs x' y' ks' logs')
AcceptsOn i s c x y ks logs (Err refusal.OutOfMemory) x' y' ks' logs' =
    StaysAs x y ks logs x' y' ks' logs'
AcceptsOn i s c x y ks logs (Err _) x' y' ks' logs' = ⊥
