use Rattle.std.proofs.Common.{◌≡◌, ◌≤◌, ◌+◌, ◌*◌, vec_len, vec_capacity}
use Rattle.ca_dbr.proofs.Gathering.{PutTo}
use Rattle.ca_dbr.proofs.shown.put_converted.Given as goal

abbrev pub invariant-loop-item : goal.invariant-loop-item
invariant-loop-item g l = record {
  put : PutTo g.T.ImageElement.spelled g.T.ImageElement.fits g.C.Conversion.gives l.items l.item-index l.initial.out.items l.out.items;
  len : vec_len l.out ≡ vec_len l.initial.out + l.item-index * g.T.ImageElement.SIZE;
  capacity : vec_capacity l.initial.out ≤ vec_capacity l.out;
}
