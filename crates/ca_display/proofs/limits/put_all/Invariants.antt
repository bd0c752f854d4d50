use Rattle.std.proofs.Common.{◌≡◌, ◌≤◌, ◌+◌, ◌*◌, ◌++◌, map, vec_len, vec_capacity, take}
use Rattle.std.specs.List.{flat_map}
use Rattle.ca_display.proofs.limits.put_all.Given as goal

abbrev pub invariant-loop-limit : goal.invariant-loop-limit
invariant-loop-limit g l = record {
  after : l.out.items ≡ l.initial.out.items
      ++ flat_map g.T.Limit.spelled (map g.T.Limit.narrowed (take l.limit-index l.limits));
  len : vec_len l.out ≡ vec_len l.initial.out + l.limit-index * g.T.Limit.SIZE;
  capacity : vec_capacity l.initial.out ≤ vec_capacity l.out;
}
