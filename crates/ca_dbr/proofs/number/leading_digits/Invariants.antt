use Rattle.std.proofs.Common.{◌≡◌, ℕ, ◌<◌, true, get_or}
use Rattle.std.specs.Char.{is_ascii_digit}
use Rattle.ca_dbr.proofs.number.leading_digits.Given as goal

abbrev pub invariant-loop-i : goal.invariant-loop-i
invariant-loop-i l = (k : ℕ) → k < l.i → is_ascii_digit (get_or l.bytes k 0) ≡ true
