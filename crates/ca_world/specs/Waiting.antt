-- Vocabulary: the bytes that wait on the circuits of a world, and the ends that may receive them.
use Rattle.std.specs.Prelude.{ℕ, ◌≡◌, ◌⊎◌, List, [], length, map}
use Rattle.ca_model.specs.ClientEvents.{waiting_down, waiting_up}
use Rattle.ca_model.specs.Runs.{HasClientEnd, HasServerEnd}
use Rattle.ca_model.specs.World.{ClientSide, Joined, Joins, ServerSide, World}
use Rattle.ca_world.specs.declared.circuits.Way.{Way}
use Rattle.ca_world.specs.declared.circuits.Way.TheVariants.{Down, Up}
use Rattle.ca_world_data.specs.declared.client.ClientSide as side
use Rattle.ca_world_data.specs.declared.joined.Joined as circuit
use Rattle.ca_world_data.specs.declared.server.ServerSide as other
use Rattle.ca_world_data.specs.Seen.{client_of, joined_of, server_of}

-- the bytes that wait for the server of a circuit, or for its client
abbrev pub waiting_for : Way → Joined → ClientSide → ServerSide → List ℕ
waiting_for Up j x y = waiting_up x j
waiting_for Down j x y = waiting_down y j

-- n wait on circuit k
pub record Waits (w : World) (k : ℕ) (way : Way) (n : ℕ) : Type 0 where
  pub j : Joined
  pub x : ClientSide
  pub y : ServerSide
  pub joins : Joins w k j x y
  pub many : n ≡ length (waiting_for way j x y)

-- there is no circuit k
abbrev pub IsNoCircuit : World → (k : ℕ) → Type 0
IsNoCircuit w k = (j : Joined) (x : ClientSide) (y : ServerSide) → Joins w k j x y → ⊥

-- n wait on circuit k: none if there is no such circuit
abbrev pub AreWaiting : World → (k : ℕ) → Way → (n : ℕ) → Type 0
AreWaiting w k way n = Waits w k way n ⊎ (IsNoCircuit w k × (n ≡ 0))

-- a world of these clients, servers and circuits, before anything was told
abbrev pub joined_alone : List side.ClientSide → List other.ServerSide → List circuit.Joined → World
joined_alone cs ss ks = record {
  clients = map client_of cs;
  servers = map server_of ss;
  circuits = map joined_of ks;
  client_logs = [];
  server_logs = [];
  moment = 0;
}

-- the end of circuit k that these bytes reach is open
abbrev pub Receives : World → (k : ℕ) → Way → Type 0
Receives w k Up = HasServerEnd w k
Receives w k Down = HasClientEnd w k
