-- Working: where the circuits that are open at an end are found by their handles.
use Rattle.std.specs.Prelude.{ℕ, ◌≡◌, true, List, map}
use Rattle.ca_arena.specs.declared.handle.Handle.{Handle}
use Rattle.ca_text.specs.Place.{At}
use Rattle.ca_model.specs.World.{Joined}
use Rattle.ca_world_data.specs.declared.client.ClientSide.{ClientSide}
use Rattle.ca_world_data.specs.declared.server.ServerSide.{ServerSide}

-- by the index of this handle, side i has the number k
pub record HasNumber (numbers : List (List ℕ)) (i : ℕ) (h : Handle) (k : ℕ) : Type 0 where
  pub own : List ℕ
  pub side : At numbers i own
  pub number : At own h.index k

-- each circuit that is open at an end has its number there, by the index of its handle
pub record AreIndexed (cs ss : List (List ℕ)) (ks : List Joined) : Type 0 where
  pub clients : (k : ℕ) (j : Joined) → At ks k j → j.lists.client_open ≡ true
      → HasNumber cs j.client j.at_client k
  pub servers : (k : ℕ) (j : Joined) → At ks k j → j.lists.server_open ≡ true
      → HasNumber ss j.server j.at_server k

-- the numbers that clients have, and servers
abbrev pub client_numbers : List ClientSide → List (List ℕ)
client_numbers cs = map (λ (x : ClientSide). x.circuits.items) cs

abbrev pub server_numbers : List ServerSide → List (List ℕ)
server_numbers ss = map (λ (y : ServerSide). y.circuits.items) ss
