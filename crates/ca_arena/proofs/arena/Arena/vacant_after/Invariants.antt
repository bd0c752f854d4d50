use Rattle.std.proofs.Common.{◌≡◌, ◌<◌, length}
use Rattle.std.specs.Prelude.{slice_index_or}
use Rattle.ca_arena.proofs.Ahead.{AreNext}
use Rattle.ca_arena.proofs.arena.Arena.vacant_after.Given as goal

abbrev pub invariant-loop-place : goal.invariant-loop-place
invariant-loop-place g l =
    record {
      index : l.place < length l.self.freed → l.index ≡ slice_index_or l.self.freed l.place 0;
      next : AreNext l.self l.ahead l.place;
    }
