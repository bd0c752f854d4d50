use Rattle.std.proofs.Common.{ℕ, ◌≤◌, map}
use Rattle.ca_world.specs.Adding.{StandsBehind}
use Rattle.ca_world_data.specs.Seen.{record_of}
use Rattle.ca_world.proofs.add.count_before.Given as goal

-- all before this place come before it
abbrev pub invariant-loop-place : goal.invariant-loop-place
invariant-loop-place l =
    record { before : (n : ℕ) → StandsBehind n l.core.records (map record_of l.records) l.name → l.place ≤ n }
