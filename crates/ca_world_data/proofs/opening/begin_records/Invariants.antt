use Rattle.std.proofs.Common.{◌≡◌, ◌++◌, drop, map}
use Rattle.ca_model.specs.World.{numbered, record_begun}
use Rattle.ca_world_data.specs.Seen.{record_of}
use Rattle.ca_world_data.proofs.opening.begin_records.Given as goal

-- the records that are left make up the rest
abbrev pub invariant-loop-number : goal.invariant-loop-number
invariant-loop-number l =
    record { sides : map record_of l.sides.items ++ numbered l.number record_begun (drop l.number l.records) ≡ numbered 0 record_begun l.records }
