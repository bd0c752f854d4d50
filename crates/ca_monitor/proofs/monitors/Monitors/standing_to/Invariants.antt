use Rattle.std.proofs.Common.{◌≡◌, ◌++◌, drop, filter}
use Rattle.ca_lists.specs.Walks.{each_at}
use Rattle.ca_monitor.specs.Layout.{is_standing_to}
use Rattle.ca_monitor.specs.Subscriptions.{standing_to}
use Rattle.ca_monitor.proofs.monitors.Monitors.standing_to.Given as goal

abbrev pub invariant-loop-place : goal.invariant-loop-place
invariant-loop-place l =
    l.found.items ++ each_at (filter (is_standing_to l.channel)) l.self-inside.table (drop l.place l.listed) ≡ standing_to l.channel l.self-inside.table
