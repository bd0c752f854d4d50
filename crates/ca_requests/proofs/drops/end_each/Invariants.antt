use Rattle.std.proofs.Common.{◌≡◌, drop}
use Rattle.ca_requests.specs.Layout.{each_drained}
use Rattle.ca_requests.proofs.drops.end_each.Given as goal

abbrev pub invariant-loop-index : goal.invariant-loop-index
invariant-loop-index l = each_drained (drop l.index l.requests) l.table ≡ each_drained l.requests l.initial.table
