use Rattle.std.proofs.Common.{◌≡◌, length, take}
use Rattle.ca_model.specs.ClientEnds.{distinct}
use Rattle.ca_client_tables.proofs.beginning.count_names.Given as goal

abbrev pub invariant-loop-index : goal.invariant-loop-index
invariant-loop-index l = l.count ≡ length (distinct (take l.index l.names))
