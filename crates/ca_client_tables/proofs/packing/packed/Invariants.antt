use Rattle.std.proofs.Common.{◌≡◌, ◌++◌, [], drop, map}
use Rattle.ca_model.specs.ClientEnds.{packed}
use Rattle.ca_client_tables.proofs.packing.packed.Given as goal

abbrev pub invariant-loop-index : goal.invariant-loop-index
invariant-loop-index l = map (λ d. d.items) l.full.items ++ packed l.last.items (drop l.index l.searches) ≡ packed [] l.searches
