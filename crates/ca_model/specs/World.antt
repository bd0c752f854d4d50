-- Statement: a world of clients and servers, the circuits that join them, and what happened.
use Rattle.std.specs.Prelude.{ℕ, ◌≡◌, ◌<◌, ◌≤◌, ◌^◌, ◌+◌, ◌==◌, ◌++◌, List, [], ◌∷◌, Option, None}
use Rattle.std.specs.Prelude.{find, length, map, option_and_then, option_map, slice_get, slice_set}
use Rattle.std.specs.Prelude.{unwrap_or}
use Rattle.std.specs.List.{flat_map}
use Rattle.ca_arena.specs.declared.handle.Handle.{Handle}
use Rattle.ca_queue.specs.declared.entry.SubKey.{SubKey}
use Rattle.ca_queue.specs.Queue.{Queue}
use Rattle.ca_records.specs.Record.{IsRecord, RecordState}
use Rattle.ca_records.specs.Rules.{Rule}
use Rattle.ca_text.specs.Place.{At}
use Rattle.ca_text.specs.Limits.{arena_slots}
use Rattle.ca_model.specs.Client.{Client}
use Rattle.ca_model.specs.ClientEnds.{distinct, new_client}
use Rattle.ca_model.specs.Ends.{Address, NamesFit, Peer}
use Rattle.ca_model.specs.History.{Cause, Circuit, Entry, Added, Intent, Line, Sent, Step, Told}
use Rattle.ca_model.specs.History as history
use Rattle.ca_model.specs.Server.{Server, new_server}

-- ---- what a world is made of

-- a client as it is given: its names, and the name servers that it is to use
pub record ClientSetting : Type 0 where
  pub peer : Peer
  pub name_servers : List Address

-- a server as it is given: its address, its rules and its records
pub record ServerSetting : Type 0 where
  pub address : Address
  pub rules : List Rule
  pub records : List RecordState

-- the clients and servers of a world; each client lists the addresses of all servers, in order
pub record Setting : Type 0 where
  pub clients : List ClientSetting
  pub servers : List ServerSetting

-- Users and hosts fit into a message, and name servers into a table; the records of a server are
-- records, and have different names; ports are ports, and the servers have different addresses.
pub record IsSetting (s : Setting) : Type 0 where
  pub fit : (i : ℕ) (c : ClientSetting) → At s.clients i c → NamesFit c.peer
  pub few : (i : ℕ) (c : ClientSetting) → At s.clients i c
      → length (distinct c.name_servers) ≤ arena_slots
  pub records : (i j : ℕ) (y : ServerSetting) (r : RecordState) → At s.servers i y
      → At y.records j r → IsRecord r
  pub names : (i j k : ℕ) (y : ServerSetting) (r q : RecordState) → At s.servers i y
      → At y.records j r → At y.records k q → r.name ≡ q.name → j ≡ k
  pub ports : (i : ℕ) (y : ServerSetting) → At s.servers i y → y.address.port < 2 ^ 16
  pub addresses : (i j : ℕ) (y z : ServerSetting) → At s.servers i y → At s.servers j z
      → y.address ≡ z.address → i ≡ j

-- ---- a world

-- What a client's handles name, by number: its channels; its requests and its subscriptions, each
-- with its intent; and how many plain writes it accepted.
pub record Names : Type 0 where
  pub channels : List Handle
  pub requests : List (Handle × Intent)
  pub subscriptions : List (Handle × Intent)
  pub writes : ℕ

-- a client: as it was given, its core, which life of all this is, and what its handles name
pub record ClientSide : Type 0 where
  pub setting : ClientSetting
  pub core : Client
  pub life : ℕ
  pub names : Names

-- where a put with notification came: its circuit, and its place among the messages there
pub record PutPlace : Type 0 where
  pub circuit : ℕ
  pub place : ℕ

-- a record of a server: its name, its number among all records that this life had, and where its
-- busy and its waiting puts came
pub record RecordSide : Type 0 where
  pub name : List ℕ
  pub number : ℕ
  pub busy : Option PutPlace
  pub waiting : List PutPlace

-- a server: as it was given, its core, which life of all this is, and its records
pub record ServerSide : Type 0 where
  pub setting : ServerSetting
  pub core : Server
  pub life : ℕ
  pub records : List RecordSide
  pub added : ℕ

-- a subscription that is at a server's end: its key, the place of its EVENT_ADD, and how many
-- posts matched so far
pub record Standing : Type 0 where
  pub key : SubKey
  pub place : ℕ
  pub posts : ℕ

-- where a channel that is open at a server's end was created: its SID, and the
-- place of its CREATE_CHAN
pub record Creation : Type 0 where
  pub sid : ℕ
  pub place : ℕ

-- A circuit: its client and its server, and the handles by which their cores know it; its lists;
-- the bytes that ends which have ended left; and at the server's end where its open channels were
-- created, the subscriptions that stand, and the queues, as the numbers of what waits there.
pub record Joined : Type 0 where
  pub client : ℕ
  pub server : ℕ
  pub at_client : Handle
  pub at_server : Handle
  pub lists : Circuit
  pub left_up : List ℕ
  pub left_down : List ℕ
  pub creations : List Creation
  pub standing : List Standing
  pub queues : List (Queue (ℕ × Cause))

-- A world: its clients, its servers and its circuits; the logs of all lives of clients and of
-- servers; and the moment handed in last.
pub record World : Type 0 where
  pub clients : List ClientSide
  pub servers : List ServerSide
  pub circuits : List Joined
  pub client_logs : List (List Line)
  pub server_logs : List (List Entry)
  pub moment : ℕ

-- ---- what a world tells

-- what waits in the queues of a circuit, queue by queue
abbrev pub waiting_in : List (Queue (ℕ × Cause)) → List (ℕ × Cause)
waiting_in queues =
    flat_map (λ (q : Queue (ℕ × Cause)). map (λ (w : SubKey × (ℕ × Cause)). w.1) q.waiting) queues

-- a circuit as what happened on it
abbrev pub circuit_of : Joined → Circuit
circuit_of j = record j.lists { queued = waiting_in j.queues }

-- what happened in a world, of which the statement speaks
abbrev pub told : World → history.World
told w = record {
  circuits = map circuit_of w.circuits;
  clients = w.client_logs;
  servers = w.server_logs;
}

-- as what the server was given whose life this is, by a circuit that joins it
abbrev pub setting_of : World → (life : ℕ) → Option ServerSetting
setting_of w life =
    option_and_then
    (λ (j : Joined). option_map (λ (y : ServerSide). y.setting) (slice_get w.servers j.server))
    (find (λ (j : Joined). j.lists.server == life) w.circuits)

-- its port, and its rules
abbrev pub port_of : World → (life : ℕ) → ℕ
port_of w life =
    unwrap_or (option_map (λ (s : ServerSetting). s.address.port) (setting_of w life)) 0

abbrev pub rules_of : World → (life : ℕ) → List Rule
rules_of w life = unwrap_or (option_map (λ (s : ServerSetting). s.rules) (setting_of w life)) []

-- ---- a world before any event

-- f of each, with its number, from this one on
abbrev pub numbered : {A B : Type 0} → ℕ → (ℕ → A → B) → List A → List B
numbered n f [] = []
numbered n f (x ∷ xs) = f n x ∷ numbered (n + 1) f xs

-- no handle names anything yet
abbrev pub no_names : Names
no_names = record { channels = []; requests = []; subscriptions = []; writes = 0 }

-- a client that begins this life now
abbrev pub client_begun : (servers : List Address) → (moment life : ℕ) → ClientSetting → ClientSide
client_begun servers moment life s =
    record {
      setting = s;
      core = new_client
          (record { peer = s.peer; servers = servers; names = s.name_servers; now = moment });
      life = life;
      names = no_names;
    }

-- a record that a server begins with
abbrev pub record_begun : ℕ → RecordState → RecordSide
record_begun number r = record { name = r.name; number = number; busy = None; waiting = [] }

-- a server that begins this life now
abbrev pub server_begun : (moment life : ℕ) → ServerSetting → ServerSide
server_begun moment life s = record {
  setting = s;
  core = new_server s.address.port moment s.rules s.records;
  life = life;
  records = numbered 0 record_begun s.records;
  added = length s.records;
}

-- the log with which a server's life begins: the records that it was given
abbrev pub log_begun : ServerSetting → List Entry
log_begun s = numbered 0 Added s.records

-- the addresses of all servers, in order
abbrev pub addresses : List ServerSetting → List Address
addresses servers = map (λ (y : ServerSetting). y.address) servers

-- the world before any event
abbrev pub opening : Setting → World
opening s = record {
  clients = numbered 0 (client_begun (addresses s.servers) 0) s.clients;
  servers = numbered 0 (server_begun 0) s.servers;
  circuits = [];
  client_logs = map (λ (c : ClientSetting). []) s.clients;
  server_logs = map log_begun s.servers;
  moment = 0;
}

-- ---- parts of a world

-- the world with another client i, server i, or circuit k
abbrev pub with_client : ℕ → ClientSide → World → World
with_client i x w = record w { clients = slice_set w.clients i x }

abbrev pub with_server : ℕ → ServerSide → World → World
with_server i y w = record w { servers = slice_set w.servers i y }

abbrev pub with_circuit : ℕ → Joined → World → World
with_circuit k j w = record w { circuits = slice_set w.circuits k j }

-- the log of a life, with these at its end
abbrev pub grown : {A : Type 0} → ℕ → List A → List (List A) → List (List A)
grown life more logs = slice_set logs life (unwrap_or (slice_get logs life) [] ++ more)

-- a client's life has these lines more, and a server's these entries
abbrev pub with_lines : ℕ → List Line → World → World
with_lines life lines w = record w { client_logs = grown life lines w.client_logs }

abbrev pub with_entries : ℕ → List Entry → World → World
with_entries life entries w = record w { server_logs = grown life entries w.server_logs }

-- how long the log of a life is
abbrev pub log_length : {A : Type 0} → ℕ → List (List A) → ℕ
log_length life logs = length (unwrap_or (slice_get logs life) [])

-- circuit k, and the client and the server that it joins
pub record Joins (w : World) (k : ℕ) (j : Joined) (x : ClientSide) (y : ServerSide) : Type 0 where
  pub at : At w.circuits k j
  pub client : At w.clients j.client x
  pub server : At w.servers j.server y
