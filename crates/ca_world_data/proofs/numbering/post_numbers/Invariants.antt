use Rattle.std.proofs.Common.{◌≡◌, ◌≤◌, ℕ, map}
use Rattle.ca_text.specs.Place.{At}
use Rattle.ca_model.specs.ServerEvents.{numbers_posted}
use Rattle.ca_world_data.specs.declared.joined.Joined.{Joined}
use Rattle.ca_world_data.specs.Seen.{joined_of}
use Rattle.ca_world_data.proofs.Gone.{map_from}
use Rattle.ca_world_data.proofs.numbering.post_numbers.Given as goal

-- with those that are left all have their numbers, and those are as they were
abbrev pub invariant-loop-joined : goal.invariant-loop-joined
invariant-loop-joined l =
    record {
      circuits :
          map_from l.joined-index (numbers_posted l.server l.core l.name l.mask) (map joined_of l.circuits) ≡ map (numbers_posted l.server l.core l.name l.mask) (map joined_of l.initial.circuits);
      rest : (k : ℕ) (j : Joined) → l.joined-index ≤ k → At l.circuits k j → At l.initial.circuits k j;
    }
