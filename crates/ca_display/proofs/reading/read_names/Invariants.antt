use Rattle.std.proofs.Common.{◌≡◌, ◌+◌, ◌*◌, ◌++◌, All, length}
use Rattle.std.specs.List.{flat_map}
use Rattle.ca_dbr.specs.Elements.{string_bytes}
use Rattle.ca_display.proofs.reading.read_names.Given as goal

abbrev pub invariant-loop : goal.invariant-loop
invariant-loop l = record {
  again : flat_map string_bytes l.names.items ++ l.rest ≡ l.bytes;
  count : length l.names.items ≡ l.counter;
  len : length l.rest + l.counter * 26 ≡ length l.bytes;
  names : All (λ x. length x ≡ 26) l.names.items;
}
