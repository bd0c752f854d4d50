use Rattle.std.proofs.Common.{◌≡◌, ◌+◌, drop}
use Rattle.ca_model.specs.ClientEvents.{place_of}
use Rattle.ca_world_servers.specs.Handling.{has_room}
use Rattle.ca_world_servers.proofs.handling.first_with_room.Given as goal

-- the place is among those that are left
abbrev pub invariant-loop-place : goal.invariant-loop-place
invariant-loop-place l = record { left : l.place + place_of has_room (drop l.place l.queues) ≡ place_of has_room l.queues }
