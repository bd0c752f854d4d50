use Rattle.std.proofs.Common.{◌≡◌, map, take}
use Rattle.ca_c.specs.Clients.{address_of}
use Rattle.ca_c.proofs.client.addresses.Given as goal

-- those before this index were added
abbrev pub invariant-loop-index : goal.invariant-loop-index
invariant-loop-index l = l.all.items ≡ map address_of (take l.index l.given)
