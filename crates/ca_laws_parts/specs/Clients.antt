-- Working: what holds of all clients of a world, and of the circuits whose ends at them are open.
use Rattle.std.specs.Prelude.{ℕ, ◌≡◌, false, is_none, true}
use Rattle.ca_text.specs.Place.{At}
use Rattle.ca_model.specs.Client.{connection_at}
use Rattle.ca_model.specs.World.{ClientSide, Joined, World}
use Rattle.ca_laws_parts.specs.Circuit.{HaveHandles}
use Rattle.ca_laws_parts.specs.Client.{IsSound}

-- Each client is sound; an end that is open is connected in its client's core, and has a
-- handle of its own there.
pub record ClientsStand (w : World) : Type 0 where
  pub sound : (i : ℕ) (x : ClientSide) → At w.clients i x → IsSound x.names x.core
  pub connected : (k : ℕ) (j : Joined) (x : ClientSide) → At w.circuits k j
      → At w.clients j.client x → j.lists.client_open ≡ true
      → is_none (connection_at x.core j.at_client) ≡ false
  pub handles : HaveHandles w
