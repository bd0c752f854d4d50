use Rattle.std.proofs.Common.{◌≡◌, ◌^◌, ◌<◌, length, take}
use Rattle.std.specs.Str.Parse.{AllDigits, digits_value}
use Rattle.ca_script.proofs.decimals.decimal.Given as goal

abbrev pub invariant-loop-byte : goal.invariant-loop-byte
invariant-loop-byte l =
    (l.number ≡ digits_value 10 (take l.byte-index l.word)) × AllDigits 10 (take l.byte-index l.word) × (l.number < 2 ^ 64) × (0 < length l.word)
