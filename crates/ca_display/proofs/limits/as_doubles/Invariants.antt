use Rattle.std.proofs.Common.{◌≡◌, map, take}
use Rattle.ca_display.proofs.limits.as_doubles.Given as goal

abbrev pub invariant-loop-item : goal.invariant-loop-item
invariant-loop-item g l = l.doubles.items ≡ map g.T.Limit.widened (take l.item-index l.items)
