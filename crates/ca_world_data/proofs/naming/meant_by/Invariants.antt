use Rattle.std.proofs.Common.{◌≡◌, drop, map}
use Rattle.ca_model.specs.ClientEvents.{meant_by}
use Rattle.ca_world_data.specs.Seen.{named_of}
use Rattle.ca_world_data.proofs.naming.meant_by.Given as goal

-- the handle is named among those that are left
abbrev pub invariant-loop-place : goal.invariant-loop-place
invariant-loop-place l = record { left : meant_by (map named_of (drop l.place l.named)) l.handle ≡ meant_by (map named_of l.named) l.handle }
