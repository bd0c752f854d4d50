use Rattle.std.proofs.Common.{◌≡◌, ◌≤◌, length, vec_len, vec_capacity}
use Rattle.ca_dbr.proofs.Gathering.{GatheredTo}
use Rattle.ca_dbr.specs.Data.{data_of}
use Rattle.ca_display.proofs.conversion.show_into.Given as goal

abbrev pub invariant-loop-item : goal.invariant-loop-item
invariant-loop-item g l = record {
  gathered : GatheredTo (g.S.DisplayShown.gives (data_of l.display)) l.items l.item-index l.out.items;
  len : vec_len l.out ≡ l.item-index;
  capacity : length l.items ≤ vec_capacity l.out;
}
