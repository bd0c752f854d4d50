use Rattle.std.proofs.Common.{◌≡◌, drop, map}
use Rattle.ca_model.specs.ServerEvents.{created_at}
use Rattle.ca_world_data.specs.Seen.{creation_of}
use Rattle.ca_world_servers.proofs.losing.created_at.Given as goal

-- none before this place has the SID
abbrev pub invariant-loop-creation : goal.invariant-loop-creation
invariant-loop-creation l =
    record { place : created_at l.sid (map creation_of (drop l.creation-index l.creations)) ≡ created_at l.sid (map creation_of l.creations) }
