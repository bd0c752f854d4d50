-- Statement: the steps of an end are in order, by how many messages came to it and went from it,
-- and how long the log of its life is.
use Rattle.std.specs.Prelude.{ℕ, ◌≡◌, ◌<◌, ◌≤◌, true, List, length}
use Rattle.ca_text.specs.Place.{At}
use Rattle.ca_model.specs.History.{Circuit, Entry, Line, Step}
use Rattle.ca_model.specs.Channels.{AreSteps, OfCircuits}
use Rattle.ca_model.specs.World.{ClientSide, Joined, World, log_length, told}

-- One step for each of the first messages that came, in order; each within what
-- was sent and logged.
pub record InOrder (steps : List Step) (came sent log : ℕ) : Type 0 where
  pub one_each : length steps ≤ came
  pub within : (k : ℕ) (h : Step) → At steps k h → (h.sent ≤ sent) × (h.logged ≤ h.after)
      × (h.after ≤ log)
  pub rise : (i j : ℕ) (g h : Step) → i < j → At steps i g → At steps j h → (g.sent ≤ h.sent)
      × (g.after ≤ h.logged)

-- The lives of clients: the present ones have logs, and so have those that circuits join; an open
-- end joins the present life.
pub record HaveLives (w : World) : Type 0 where
  pub present : (i : ℕ) (x : ClientSide) → At w.clients i x → x.life < length w.client_logs
  pub joined : (n : ℕ) (c : Joined) → At w.circuits n c → c.lists.client < length w.client_logs
  pub same : (n : ℕ) (c : Joined) (x : ClientSide) → At w.circuits n c → At w.clients c.client x
      → c.lists.client_open ≡ true
      → c.lists.client ≡ x.life

-- The steps of the servers' ends of all circuits, and of the clients' ends.
abbrev pub ServersInOrder : World → Type 0
ServersInOrder w = (n : ℕ) (c : Joined) → At w.circuits n c
    → InOrder c.lists.handled (length c.lists.up) (length c.lists.down)
    (log_length c.lists.server w.server_logs)

abbrev pub ClientsInOrder : World → Type 0
ClientsInOrder w = (n : ℕ) (c : Joined) → At w.circuits n c
    → InOrder c.lists.heard (length c.lists.down) (length c.lists.up)
    (log_length c.lists.client w.client_logs)

-- And in the words of the statement, of all circuits with the logs that each joins: the server's
-- ends, and both ends.
abbrev pub ServerStepsAre : World → Type 0
ServerStepsAre w =
    OfCircuits (told w)
    (λ (n : ℕ) (c : Circuit) (x : List Line) (y : List Entry). AreSteps c.handled c.up c.down y)

abbrev pub StepsAre : World → Type 0
StepsAre w = OfCircuits (told w)
    (λ (n : ℕ) (c : Circuit) (x : List Line) (y : List Entry). AreSteps c.handled c.up c.down y
    × AreSteps c.heard c.down c.up x)
