use Rattle.std.proofs.Common.{◌≡◌, take}
use Rattle.ca_client_core.specs.Again.{add_messages}
use Rattle.ca_client_tables.specs.Ends.{with_messages}
use Rattle.ca_client_core.proofs.client.ClientCore.queue_adds.Given as goal

abbrev pub invariant-loop-index : goal.invariant-loop-index
invariant-loop-index l = l.self ≡ with_messages l.circuit (add_messages l.sid (take l.index l.standing)) l.initial.self
