use Rattle.std.proofs.Common.{◌≡◌, ◌≤◌, ◌+◌, ◌++◌, vec_len, vec_capacity, take}
use Rattle.ca_dbr.proofs.element.put_bytes.Given as goal

abbrev pub invariant-loop-byte : goal.invariant-loop-byte
invariant-loop-byte l = record {
  after : l.out.items ≡ l.initial.out.items ++ take l.byte-index l.bytes;
  len : vec_len l.out ≡ vec_len l.initial.out + l.byte-index;
  capacity : vec_capacity l.initial.out ≤ vec_capacity l.out;
}
