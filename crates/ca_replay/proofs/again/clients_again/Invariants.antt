use Rattle.std.proofs.Common.{◌≡◌, take}
use Rattle.ca_replay.proofs.again.clients_again.Given as goal

abbrev pub invariant-loop-client : goal.invariant-loop-client
invariant-loop-client l = l.all.items ≡ take l.client-index l.clients
