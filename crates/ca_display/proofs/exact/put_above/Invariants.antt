use Rattle.std.proofs.Common.{◌≡◌, ◌*◌, ◌^◌, ◌≤◌, ◌<◌, length}
use Rattle.std.specs.Int.Digits.{AllBelowBase}
use Rattle.ca_display.specs.Exact.{with_above}
use Rattle.ca_display.proofs.exact.put_above.Given as goal

abbrev pub invariant-loop-number : goal.invariant-loop-number
invariant-loop-number l = record {
  below : AllBelowBase 10 l.digits.items;
  same : with_above l.digits.items l.number ≡ with_above l.initial.digits.items l.initial.number;
  high : 0 < length l.digits.items → 10 ^ length l.digits.items ≤ 10 * with_above l.initial.digits.items l.initial.number;
}

abbrev pub decreases-loop-number : goal.decreases-loop-number
decreases-loop-number l = l.number
