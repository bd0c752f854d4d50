-- Working: each life of a client that a world speaks of has its log.
use Rattle.std.specs.Prelude.{ℕ, ◌<◌, length}
use Rattle.ca_text.specs.Place.{At}
use Rattle.ca_model.specs.World.{ClientSide, Joined, World}

-- The present lives of clients have logs, and so have those that circuits join.
pub record HaveLines (w : World) : Type 0 where
  pub lives : (i : ℕ) (x : ClientSide) → At w.clients i x → x.life < length w.client_logs
  pub joins : (n : ℕ) (c : Joined) → At w.circuits n c → c.lists.client < length w.client_logs
