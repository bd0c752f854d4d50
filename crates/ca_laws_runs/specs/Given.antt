-- Working: what a server goes by that it was given: its port and its rules; and which circuits join
-- one life of a server.
use Rattle.std.specs.Prelude.{ℕ, ◌≡◌}
use Rattle.ca_text.specs.Place.{At}
use Rattle.ca_model.specs.Due.{Knows}
use Rattle.ca_model.specs.World.{Joined, ServerSetting, ServerSide, Setting, World}

-- The port and the rules that a server knows are those that server i was given.
abbrev pub IsGiven : Setting → (i : ℕ) → Knows → Type 0
IsGiven s i k =
    (g : ServerSetting) × At s.servers i g × (k.port ≡ g.address.port) × (k.rules ≡ g.rules)

-- A circuit that joins a life of a server is one of that server; and so are all
-- circuits that join one life.
pub record OfOneServer (w : World) : Type 0 where
  pub present : (n i : ℕ) (c : Joined) (y : ServerSide) → At w.circuits n c → At w.servers i y
      → c.lists.server ≡ y.life → c.server ≡ i
  pub joined : (n m : ℕ) (c d : Joined) → At w.circuits n c → At w.circuits m d
      → c.lists.server ≡ d.lists.server → c.server ≡ d.server
