use Rattle.std.proofs.Common.{◌<◌, ℕ}
use Rattle.ca_text.specs.Place.{At}
use Rattle.ca_world_data.specs.declared.joined.Joined.{Joined}
use Rattle.ca_world_data.specs.Numbering.{MayCount}
use Rattle.ca_world_data.proofs.numbering.check_counts.Given as goal

-- so it is of each circuit before this place
abbrev pub invariant-loop-joined : goal.invariant-loop-joined
invariant-loop-joined l = record { few : (k : ℕ) (j : Joined) → k < l.joined-index → At l.circuits k j → MayCount j.standing.items }
