-- Working: the circuits of a world whose ends at their servers are open, and those ends; and what
-- holds of all writes.
use Rattle.std.specs.Prelude.{ℕ, ◌≡◌, ◌≤◌, true, List, length, take}
use Rattle.std.specs.List.{FoldsTo}
use Rattle.ca_link.specs.Link.{TakesFirst}
use Rattle.ca_text.specs.Place.{At}
use Rattle.ca_wire.specs.Fields.{Fields}
use Rattle.ca_model.specs.Server.{ServerEnd}
use Rattle.ca_model.specs.ServerSteps.{HasEnd}
use Rattle.ca_model.specs.History.{Entry, Sent, Step}
use Rattle.ca_model.specs.Events.{Event}
use Rattle.ca_model.specs.Runs.{Happens}
use Rattle.ca_model.specs.World.{Joined, ServerSide, Setting, World}
use Rattle.ca_laws_parts.specs.Moves.{Writes}

-- The circuit joins the present life of its server, whose core has an open end under
-- the circuit's handle.
pub record HasSeat (w : World) (c : Joined) : Type 0 where
  pub y : ServerSide
  pub at : At w.servers c.server y
  pub joins : c.lists.server ≡ y.life
  pub e : ServerEnd
  pub has : HasEnd y.core c.at_server e

-- Each circuit whose end at its server is open has its seat, under a handle of its own.
pub record Seated (w : World) : Type 0 where
  pub each : (n : ℕ) (c : Joined) → At w.circuits n c → c.lists.server_open ≡ true → HasSeat w c
  pub one : (n m : ℕ) (c d : Joined) → At w.circuits n c → At w.circuits m d → c.server ≡ d.server
      → c.lists.server_open ≡ true
      → d.lists.server_open ≡ true → c.at_server ≡ d.at_server → n ≡ m

-- Each step of a server's end ended within the log of its server's life, which is there.
abbrev pub WithinLogs : World → Type 0
WithinLogs w = (n : ℕ) (c : Joined) → At w.circuits n c
    → (y : List Entry) × At w.server_logs c.lists.server y
    × ((k : ℕ) (h : Step) → At c.lists.handled k h → h.after ≤ length y)

-- each server is as it was given
abbrev pub AsGiven : Setting → World → Type 0
AsGiven s w = (i : ℕ) (y : ServerSide) → At w.servers i y → At s.servers i y.setting

-- What holds of the writes of a world, from this setting on, and of the servers' ends
-- by which it stays so.
pub record Sound (s : Setting) (w : World) : Type 0 where
  pub writes : Writes w
  pub seated : Seated w
  pub within : WithinLogs w
  pub given : AsGiven s w

-- What an open end takes next is the next message that its client sent.
abbrev pub TakesSent : World → Type 0
TakesSent w =
    (k : ℕ) (j : Joined) (y : ServerSide) (e : ServerEnd) (m : Fields) (rest : List ℕ)
    → At w.circuits k j
    → At w.servers j.server y → j.lists.server_open ≡ true → HasEnd y.core j.at_server e
    → TakesFirst e.link m rest
    → (s : Sent) × At j.lists.up (length j.lists.handled) s × (s.message ≡ m)

-- So it is in each world to which a beginning of these events leads.
abbrev pub AllTakeSent : World → List Event → Type 0
AllTakeSent w es = (n : ℕ) (mid : World) → FoldsTo Happens w (take n es) mid → TakesSent mid
