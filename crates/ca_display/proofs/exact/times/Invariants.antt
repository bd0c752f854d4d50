use Rattle.std.proofs.Common.{◌≡◌, ◌*◌, ◌≤◌, length, take}
use Rattle.std.specs.Int.Digits.{AllBelowBase}
use Rattle.ca_display.specs.Exact.{number_of, with_above}
use Rattle.ca_display.proofs.exact.times.Given as goal

abbrev pub invariant-loop-digit : goal.invariant-loop-digit
invariant-loop-digit l = record {
  below : AllBelowBase 10 l.product.items;
  count : length l.product.items ≡ l.digit-index;
  same : with_above l.product.items l.carry ≡ number_of (take l.digit-index l.items) * l.factor;
  small : l.carry ≤ l.factor;
}
