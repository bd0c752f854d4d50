use Rattle.std.proofs.Common.{drop, option_map}
use Rattle.ca_lists.specs.Walks.{IsLeft}
use Rattle.ca_monitor.specs.Subscriptions.{over_on}
use Rattle.ca_monitor.proofs.drops.end_all.Given as goal

abbrev pub invariant-loop-place : goal.invariant-loop-place
invariant-loop-place l = IsLeft (option_map (over_on l.circuit l.channel)) l.initial.table l.table (drop l.place l.listed)
