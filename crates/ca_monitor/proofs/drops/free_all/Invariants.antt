use Rattle.std.proofs.Common.{drop}
use Rattle.ca_ids.specs.Table.{kept_of}
use Rattle.ca_lists.specs.Walks.{IsLeft}
use Rattle.ca_monitor.specs.Layout.{named}
use Rattle.ca_monitor.proofs.drops.free_all.Given as goal

abbrev pub invariant-loop-place : goal.invariant-loop-place
invariant-loop-place l = IsLeft (kept_of (named l.which)) l.initial.table l.table (drop l.place l.listed)
