use Rattle.std.proofs.Common.{take}
use Rattle.ca_client_tables.specs.Names.{HasNames}
use Rattle.ca_client_tables.proofs.beginning.add_names.Given as goal

abbrev pub invariant-loop-index : goal.invariant-loop-index
invariant-loop-index l = HasNames (take l.index l.names) l.circuits l.order.items
