use Rattle.std.proofs.Common.{◌≡◌, ◌≤◌, ◌+◌, ◌*◌, ◌++◌, All, vec_len, vec_capacity, take}
use Rattle.std.specs.List.{flat_map}
use Rattle.ca_dbr.proofs.element.put_all.Given as goal

abbrev pub invariant-loop-item : goal.invariant-loop-item
invariant-loop-item g l = record {
  after : l.row.items ≡ l.initial.row.items ++ flat_map g.E.ImageElement.spelled (take l.item-index l.items);
  len : vec_len l.row ≡ vec_len l.initial.row + l.item-index * g.E.ImageElement.SIZE;
  capacity : vec_capacity l.initial.row ≤ vec_capacity l.row;
  fits : All g.E.ImageElement.fits (take l.item-index l.items);
}
