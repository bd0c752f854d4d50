use Rattle.std.proofs.Common.{◌≡◌, ◌+◌, ◌*◌, ◌++◌, ◌≤◌, All, length, vec_capacity, vec_len}
use Rattle.std.specs.List.{flat_map}
use Rattle.ca_dbr.proofs.element.read_all.Given as goal

abbrev pub invariant-loop : goal.invariant-loop
invariant-loop g l = record {
  again : flat_map g.E.ImageElement.spelled l.items.items ++ l.rest ≡ l.bytes;
  count : length l.items.items ≡ l.counter;
  len : length l.rest + l.counter * g.E.ImageElement.SIZE ≡ length l.bytes;
  fits : All g.E.ImageElement.fits l.items.items;
  held : vec_len l.items ≡ l.counter;
  room : l.count ≤ vec_capacity l.items;
}
