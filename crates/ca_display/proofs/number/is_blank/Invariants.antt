use Rattle.std.proofs.Common.{◌≡◌, true, take}
use Rattle.std.specs.List.{list_all}
use Rattle.ca_dbr.specs.Number.{is_space}
use Rattle.ca_display.proofs.number.is_blank.Given as goal

abbrev pub invariant-loop-byte : goal.invariant-loop-byte
invariant-loop-byte l = list_all is_space (take l.byte-index l.bytes) ≡ true
