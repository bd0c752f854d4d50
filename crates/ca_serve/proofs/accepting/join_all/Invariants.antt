use Rattle.std.proofs.Common.{◌≡◌, ◌+◌}
use Rattle.indexmap.specs.IndexMap.{index_map_len}
use Rattle.ca_serve.proofs.accepting.join_all.Given as goal

abbrev pub invariant-loop-one : goal.invariant-loop-one
invariant-loop-one g l = l.all.parts + index_map_len l.running ≡ l.initial.all.parts + index_map_len l.initial.running

abbrev pub decreases-loop-one : goal.decreases-loop-one
decreases-loop-one g l = index_map_len l.running
