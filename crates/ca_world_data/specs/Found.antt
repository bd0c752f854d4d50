-- Working: the circuit that is open at a client under a handle.
use Rattle.std.specs.Prelude.{ℕ, ◌≡◌, true, List}
use Rattle.ca_arena.specs.declared.handle.Handle.{Handle}
use Rattle.ca_text.specs.Place.{At}
use Rattle.ca_model.specs.World.{Joined}

-- by the index of its handle the client has the number of each circuit that is open at its end
abbrev pub AreNumbered : List ℕ → List Joined → (client : ℕ) → Type 0
AreNumbered numbers circuits client =
    (k : ℕ) (j : Joined) → At circuits k j → j.client ≡ client → j.lists.client_open ≡ true
    → At numbers j.at_client.index k

-- it is this one
pub record IsAt (circuits : List Joined) (client : ℕ) (handle : Handle) (k : ℕ) : Type 0 where
  pub j : Joined
  pub at : At circuits k j
  pub mine : j.client ≡ client
  pub is_open : j.lists.client_open ≡ true
  pub here : j.at_client ≡ handle

-- there is none
abbrev pub IsNowhere : List Joined → (client : ℕ) → Handle → Type 0
IsNowhere circuits client handle =
    (k : ℕ) (j : Joined) → At circuits k j → j.client ≡ client → j.lists.client_open ≡ true
    → j.at_client ≡ handle → ⊥
