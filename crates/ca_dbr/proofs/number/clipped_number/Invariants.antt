use Rattle.std.proofs.Common.{◌≡◌, ◌^◌, min, take}
use Rattle.std.specs.Str.Parse.{AllDigits, digits_value}
use Rattle.ca_dbr.proofs.number.clipped_number.Given as goal

abbrev pub invariant-loop-digit : goal.invariant-loop-digit
invariant-loop-digit l = record {
  number : l.number ≡ min (digits_value 10 (take l.digit-index l.digits)) (2 ^ 32);
  digits : AllDigits 10 (take l.digit-index l.digits);
}
