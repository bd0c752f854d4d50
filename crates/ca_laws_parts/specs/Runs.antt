-- Working: the worlds to which runs lead, and what holds of their bytes and writes.
use Rattle.std.specs.Prelude.{ℕ, ◌≡◌, true, List, Option, Some, length}
use Rattle.ca_link.specs.Link.{TakesFirst}
use Rattle.ca_text.specs.Place.{At}
use Rattle.ca_wire.specs.Fields.{Fields}
use Rattle.ca_model.specs.Client.{Connection, connection_at}
use Rattle.ca_model.specs.Ends.{NamesFit}
use Rattle.ca_model.specs.History.{Told}
use Rattle.ca_model.specs.Events.{Event}
use Rattle.ca_model.specs.Runs.{Runs}
use Rattle.ca_model.specs.World.{ClientSide, IsSetting, Joined, Setting, World}
use Rattle.ca_laws_parts.specs.Clients.{ClientsStand}
use Rattle.ca_laws_parts.specs.Says.{AllAsked}
use Rattle.ca_laws_parts.specs.Seats.{Sound}
use Rattle.ca_laws_parts.specs.Speaks.{ClientFits}
use Rattle.ca_laws_parts.specs.Worlds.{AllStream, ClientsSpeak, HandlesStand}

-- A run leads to this world, from a well-formed setting.
abbrev pub IsReached : World → Type 0
IsReached w =
    (s : Setting) × (es : List Event) × (stopped : Option Event) × IsSetting s × Runs s es stopped w

-- What clients sent are messages; and each client's core fits messages, as do the
-- names that it is given.
pub record AllFit (w : World) : Type 0 where
  pub sent : ClientsSpeak w
  pub cores : (i : ℕ) (x : ClientSide) → At w.clients i x → ClientFits x.core
  pub given : (i : ℕ) (x : ClientSide) → At w.clients i x → NamesFit x.setting.peer

-- Writes are sound, clients and handles stand, what clients send are messages, each as it was
-- meant, and the bytes on all circuits are those of what was sent and not read.
pub record Stands (s : Setting) (w : World) : Type 0 where
  pub sound : Sound s w
  pub clients : ClientsStand w
  pub handles : HandlesStand w
  pub streams : AllStream w
  pub fit : AllFit w
  pub asked : AllAsked w

-- What an open end of a client takes next is the next message that its server sent.
abbrev pub HearsSent : World → Type 0
HearsSent w =
    (k : ℕ) (j : Joined) (x : ClientSide) (d : Connection) (m : Fields) (rest : List ℕ)
    → At w.circuits k j
    → At w.clients j.client x → j.lists.client_open ≡ true
    → connection_at x.core j.at_client ≡ Some d → TakesFirst d.link m rest
    → (t : Told) × At j.lists.down (length j.lists.heard) t × (t.message ≡ m)
