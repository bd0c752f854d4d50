use Rattle.std.proofs.Common.{◌≡◌, ◌≤◌, ℕ, map}
use Rattle.ca_text.specs.Place.{At}
use Rattle.ca_model.specs.World as model
use Rattle.ca_world_data.specs.declared.joined.Joined.{Joined}
use Rattle.ca_world_data.specs.Seen.{joined_of}
use Rattle.ca_world_data.proofs.Gone.{map_from}
use Rattle.ca_world_servers.specs.Losing.{AreLost}
use Rattle.ca_world_servers.proofs.losing.lose_all.Given as goal

-- with those that are left all have lost theirs, and those are as they were
abbrev pub invariant-loop-joined : goal.invariant-loop-joined
invariant-loop-joined l =
    record {
      circuits :
          (f : model.Joined → model.Joined) → AreLost l.server l.core l.initial.circuits l.leading f → map_from l.joined-index f (map joined_of l.circuits) ≡ map f (map joined_of l.initial.circuits);
      rest : (k : ℕ) (j : Joined) → l.joined-index ≤ k → At l.circuits k j → At l.initial.circuits k j;
      place : l.place ≡ l.joined-index;
    }
