use Rattle.std.proofs.Common.{◌≡◌, ◌++◌, drop, map}
use Rattle.ca_world_data.specs.Closing.{client_left}
use Rattle.ca_world_data.specs.Seen.{joined_of}
use Rattle.ca_world_data.proofs.lefts.client_lefts.Given as goal

-- the circuits that are left make up the rest
abbrev pub invariant-loop-joined : goal.invariant-loop-joined
invariant-loop-joined l = record { all : l.all.items ++ map (λ j. client_left l.client l.core (joined_of j)) (drop l.joined-index l.circuits) ≡ map (λ j. client_left l.client l.core (joined_of j)) l.circuits }
