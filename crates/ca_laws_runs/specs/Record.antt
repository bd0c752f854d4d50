-- Working: the statement's clause of updates, of every circuit of a world.
use Rattle.std.specs.Prelude.{ℕ, List}
use Rattle.ca_requests.specs.Meaning.{Means}
use Rattle.ca_text.specs.Place.{At}
use Rattle.ca_model.specs.History.{Entry, Line}
use Rattle.ca_model.specs.Updates.{Shows}
use Rattle.ca_model.specs.Channels.{OfCircuits}
use Rattle.ca_model.specs.Headline.{FollowsRecord}
use Rattle.ca_model.specs.Known.{IsDue}
use Rattle.ca_model.specs.World.{Joined, World, circuit_of, port_of, rules_of, told}

-- The updates of each accepted EVENT_ADD of this circuit follow its record, by the log
-- of its server's life.
abbrev pub CircuitFollows : World → (n : ℕ) → Joined → List Entry → Type 0
CircuitFollows w n c log =
    (x : List Line)
    → FollowsRecord (IsDue (port_of w) (rules_of w)) Shows Means n (circuit_of c) x log

-- So it is on each circuit, open or not.
abbrev pub AllFollowRecord : World → Type 0
AllFollowRecord w =
    (n : ℕ) (c : Joined) (log : List Entry) → At w.circuits n c
    → At w.server_logs c.lists.server log
    → CircuitFollows w n c log

-- And this is the statement's clause, with the logs that each circuit joins.
abbrev pub FollowRecord : World → Type 0
FollowRecord w = OfCircuits (told w) (FollowsRecord (IsDue (port_of w) (rules_of w)) Shows Means)
