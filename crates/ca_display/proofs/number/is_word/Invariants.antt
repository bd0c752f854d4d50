use Rattle.std.proofs.Common.{◌≡◌, true, take}
use Rattle.ca_display.specs.Number.{is_word}
use Rattle.ca_display.proofs.number.is_word.Given as goal

abbrev pub invariant-loop-byte : goal.invariant-loop-byte
invariant-loop-byte l = is_word (take l.byte-index l.text) ≡ true
