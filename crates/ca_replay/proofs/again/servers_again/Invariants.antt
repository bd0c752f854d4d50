use Rattle.std.proofs.Common.{◌≡◌, take}
use Rattle.ca_replay.proofs.again.servers_again.Given as goal

abbrev pub invariant-loop-server : goal.invariant-loop-server
invariant-loop-server l = l.all.items ≡ take l.server-index l.servers
