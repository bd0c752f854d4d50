-- Calls that are passed on.
use Rattle.std.specs.Prelude.{ℕ, ◌≡◌, ◌+◌, ◌<◌, ◌^◌}

-- One call more can be passed on to what has counted n calls and faults: a pass is left, and
-- both counts have room.
pub record CanPass (passes calls faults : ℕ) : Type 0 where
  pub left : 0 < passes
  pub room_for_call : calls + 1 < 2 ^ 64
  pub room_for_fault : faults + 1 < 2 ^ 64

-- One call was passed on, and this many of it failed: so much is left to pass, and so has the
-- source or the sink counted.
pub record IsPassed {S : Type 0} (calls faults : S → ℕ) (failed : ℕ) (passes : ℕ) (inner : S)
    (left : ℕ) (after : S) : Type 0 where
  pub spent : left + 1 ≡ passes
  pub called : calls after ≡ calls inner + 1
  pub faulted : faults after ≡ faults inner + failed
