use Rattle.std.proofs.Common.{◌≡◌, ◌≤◌, ◌+◌, take}
use Rattle.indexmap.specs.IndexSet.{index_set_len, spare}
use Rattle.ca_queue.specs.Ring.{keys_of_lasts}
use Rattle.ca_queue.proofs.lasts.index_all.Given as goal

abbrev pub invariant-loop-l : goal.invariant-loop-l
invariant-loop-l l = record {
  keys : l.index.keys ≡ keys_of_lasts (take l.l-index l.lasts);
  len : index_set_len l.index ≡ l.l-index;
  room : spare l.initial.index ≤ l.l-index + spare l.index;
}
