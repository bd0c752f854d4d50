use Rattle.std.proofs.Common.{◌≡◌, ◌≤◌, ◌+◌, ◌*◌, ◌++◌, vec_len, vec_capacity, take}
use Rattle.std.specs.List.{flat_map}
use Rattle.ca_dbr.specs.Elements.{string_bytes}
use Rattle.ca_display.proofs.image.put_names.Given as goal

abbrev pub invariant-loop-name : goal.invariant-loop-name
invariant-loop-name l = record {
  after : l.out.items ≡ l.initial.out.items ++ flat_map string_bytes (take l.name-index l.names);
  len : vec_len l.out ≡ vec_len l.initial.out + l.name-index * 26;
  capacity : vec_capacity l.initial.out ≤ vec_capacity l.out;
}
