use Rattle.std.proofs.Common.{◌≡◌, ◌+◌, drop}
use Rattle.ca_ids.specs.Table.{same_handle}
use Rattle.ca_model.specs.ClientEvents.{place_of}
use Rattle.ca_world_data.proofs.naming.place_in.Given as goal

-- the place is among those that are left
abbrev pub invariant-loop-place : goal.invariant-loop-place
invariant-loop-place l = record { left : l.place + place_of (same_handle l.channel) (drop l.place l.channels) ≡ place_of (same_handle l.channel) l.channels }
