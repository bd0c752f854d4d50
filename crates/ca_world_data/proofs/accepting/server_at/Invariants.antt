use Rattle.std.proofs.Common.{◌≡◌, ◌+◌, drop}
use Rattle.ca_world_data.specs.Accepting.{server_at}
use Rattle.ca_world_data.proofs.accepting.server_at.Given as goal

-- the server is among those that are left
abbrev pub invariant-loop-place : goal.invariant-loop-place
invariant-loop-place l = record { left : l.place + server_at (drop l.place l.servers) l.address ≡ server_at l.servers l.address }
