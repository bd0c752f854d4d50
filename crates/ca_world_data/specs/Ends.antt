-- Working: the ends of a circuit.
use Rattle.std.specs.Prelude.{ℕ, ◌≡◌, ◌<◌, List}
use Rattle.ca_text.specs.Place.{At}
use Rattle.ca_world_data.specs.declared.ends.Ends.{Ends}
use Rattle.ca_world_data.specs.declared.joined.Joined.{Joined}

-- what a circuit joins, and which ends are open
abbrev pub ends_of : Joined → Ends
ends_of j = record {
  client = j.client;
  server = j.server;
  at_client = j.at_client;
  at_server = j.at_server;
  client_open = j.lists.client_open;
  server_open = j.lists.server_open;
}

-- the circuit of this place has these ends, among these numbers of clients and servers
pub record AreEnds (clients servers : ℕ) (circuits : List Joined) (k : ℕ) (e : Ends) : Type 0 where
  pub j : Joined
  pub at : At circuits k j
  pub is : e ≡ ends_of j
  pub client : j.client < clients
  pub server : j.server < servers

-- no circuit of this place joins some of these numbers of clients and servers
abbrev pub NoEnds : (clients servers : ℕ) → List Joined → (k : ℕ) → Type 0
NoEnds clients servers circuits k =
    (j : Joined) → At circuits k j → j.client < clients → j.server < servers → ⊥
