use Rattle.std.proofs.Common.{◌≡◌, ◌++◌, drop}
use Rattle.ca_client_core.specs.Moments.{silent_of}
use Rattle.ca_client_core.proofs.client.ClientCore.silent.Given as goal

abbrev pub invariant-loop-index : goal.invariant-loop-index
invariant-loop-index l = l.silent.items ++ silent_of l.self (drop l.index l.self.order) ≡ silent_of l.self l.self.order
