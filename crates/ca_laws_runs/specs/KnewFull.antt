-- Working: when a server's end has no SID to give, by the lists.
use Rattle.std.specs.Prelude.{ℕ, ◌≡◌, ◌≤◌, true, count_by}
use Rattle.ca_arena.specs.Arena.{Place}
use Rattle.ca_text.specs.Place.{At}
use Rattle.ca_model.specs.Server.{OpenChannel, ServerEnd}
use Rattle.ca_model.specs.ServerSteps.{HasEnd, knows}
use Rattle.ca_model.specs.Known.{IsFull, creates_at}
use Rattle.ca_model.specs.World.{Joined, ServerSide, World}
use Rattle.ca_laws_runs.specs.KnewLists.{as_known}

-- The generation that an index of the end's channels had last is no higher than how often a
-- channel was created there.
abbrev pub CountedOn : ServerEnd → Joined → Type 0
CountedOn e c =
    (i : ℕ) (p : Place OpenChannel) → At e.channels i p
    → p.generation ≤ count_by (creates_at i) c.lists.down

-- So a server that knows of no SID to give has none, by the lists.
abbrev pub KnowFull : World → Type 0
KnowFull w =
    (n : ℕ) (c : Joined) (y : ServerSide) (e : ServerEnd) → At w.circuits n c
    → At w.servers c.server y → c.lists.server_open ≡ true
    → HasEnd y.core c.at_server e → (knows y.core e).full ≡ true
    → IsFull (as_known c.lists) (knows y.core e)
