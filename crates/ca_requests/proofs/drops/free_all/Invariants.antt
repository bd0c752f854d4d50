use Rattle.std.proofs.Common.{◌≡◌}
use Rattle.ca_ids.specs.Walks.{walked}
use Rattle.ca_requests.specs.Layout.{place_freed}
use Rattle.ca_requests.proofs.drops.free_all.Given as goal

abbrev pub invariant-loop-index : goal.invariant-loop-index
invariant-loop-index l = l.table ≡ walked (place_freed l.which) l.index l.initial.table
