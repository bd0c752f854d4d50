use Rattle.std.proofs.Common.{◌≡◌, ◌++◌, drop, map}
use Rattle.ca_world_data.specs.Restarts.{address_of}
use Rattle.ca_world_data.proofs.opening.server_addresses.Given as goal

-- the addresses of those that are left make up the rest
abbrev pub invariant-loop-server : goal.invariant-loop-server
invariant-loop-server l = record { all : l.all.items ++ map address_of (drop l.server-index l.servers) ≡ map address_of l.servers }
