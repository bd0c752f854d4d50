use Rattle.std.proofs.Common.{◌≡◌, ◌*◌, ◌^◌}
use Rattle.ca_display.specs.Exact.{number_of, AreDigits}
use Rattle.ca_display.proofs.exact.times_power.Given as goal

abbrev pub invariant-loop-exponent : goal.invariant-loop-exponent
invariant-loop-exponent l = record {
  digits : AreDigits l.digits.items (number_of l.digits.items);
  same : number_of l.digits.items * l.base ^ l.exponent ≡ number_of l.initial.digits.items * l.base ^ l.initial.exponent;
}

abbrev pub decreases-loop-exponent : goal.decreases-loop-exponent
decreases-loop-exponent l = l.exponent
