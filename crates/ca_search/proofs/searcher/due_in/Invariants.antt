use Rattle.std.proofs.Common.{◌≡◌, ◌++◌, drop}
use Rattle.ca_search.specs.Searches.{wanted_at}
use Rattle.ca_search.proofs.searcher.due_in.Given as goal

abbrev pub invariant-loop-index : goal.invariant-loop-index
invariant-loop-index l = l.found.items ++ wanted_at l.now (drop l.index l.places.entries) ≡ wanted_at l.now l.places.entries
