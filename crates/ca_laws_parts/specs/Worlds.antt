-- Working: the bytes on all circuits of a world.
use Rattle.std.specs.Prelude.{ℕ, ◌≡◌, false, List, [], Option, Some, length, map, option_map}
use Rattle.std.specs.Prelude.{unwrap_or}
use Rattle.ca_ids.specs.Table.{under}
use Rattle.ca_text.specs.Place.{At}
use Rattle.ca_wire.specs.Fields.{Fields}
use Rattle.ca_model.specs.Client.{Connection, connection_at}
use Rattle.ca_model.specs.History.{Sent, Told}
use Rattle.ca_model.specs.Server.{Open, ServerCircuit}
use Rattle.ca_model.specs.ClientEvents.{waiting_down, waiting_up}
use Rattle.ca_model.specs.World.{ClientSide, Joined, ServerSide, World}
use Rattle.ca_model.specs.Placed.{WasGiven}
use Rattle.ca_laws_parts.specs.Streams.{AreMessages, CircuitEnd, Meets}

-- what came to a client's end and was not read, and to a server's
abbrev pub came_to : Option Connection → List ℕ
came_to o = unwrap_or (option_map (λ (d : Connection). d.link.input.bytes) o) []

abbrev pub input_of : Option ServerCircuit → List ℕ
input_of (Some (Open e)) = e.link.input.bytes
input_of c = []

-- the messages that the client of a circuit sent, and its server
abbrev pub sent_up : Joined → List Fields
sent_up j = map (λ (s : Sent). s.message) j.lists.up

abbrev pub sent_down : Joined → List Fields
sent_down j = map (λ (t : Told). t.message) j.lists.down

-- the end of a circuit at its client, and at its server
abbrev pub client_end : ClientSide → Joined → CircuitEnd
client_end x j = record {
  came = came_to (connection_at x.core j.at_client);
  waiting = waiting_up x j;
  is_open = j.lists.client_open;
  sent = sent_up j;
  read = length j.lists.heard;
}

abbrev pub server_end : ServerSide → Joined → CircuitEnd
server_end y j = record {
  came = input_of (under y.core.circuits j.at_server);
  waiting = waiting_down y j;
  is_open = j.lists.server_open;
  sent = sent_down j;
  read = length j.lists.handled;
}

-- A circuit of a world: its client and its server are there, and its bytes are as its messages.
pub record StreamsOn (w : World) (j : Joined) : Type 0 where
  pub x : ClientSide
  pub client : At w.clients j.client x
  pub y : ServerSide
  pub server : At w.servers j.server y
  pub meets : Meets (client_end x j) (server_end y j)

-- all circuits
abbrev pub AllStream : World → Type 0
AllStream w = (k : ℕ) (j : Joined) → At w.circuits k j → StreamsOn w j

-- What clients sent on circuits are messages, and what servers sent.
abbrev pub ClientsSpeak : World → Type 0
ClientsSpeak w = (k : ℕ) (j : Joined) → At w.circuits k j → AreMessages (sent_up j)

abbrev pub ServersSpeak : World → Type 0
ServersSpeak w = (k : ℕ) (j : Joined) → At w.circuits k j → AreMessages (sent_down j)

-- The handles of circuits at a server in its present life: its table gave each, and once the end
-- there has ended nothing has it.
pub record HandlesStand (w : World) : Type 0 where
  pub given : (n : ℕ) (c : Joined) (y : ServerSide) → At w.circuits n c → At w.servers c.server y
      → c.lists.server ≡ y.life
      → WasGiven y.core.circuits c.at_server
  pub gone : (n : ℕ) (c : Joined) (y : ServerSide) (v : ServerCircuit) → At w.circuits n c
      → At w.servers c.server y
      → c.lists.server ≡ y.life → c.lists.server_open ≡ false
      → under y.core.circuits c.at_server ≡ Some v → ⊥
