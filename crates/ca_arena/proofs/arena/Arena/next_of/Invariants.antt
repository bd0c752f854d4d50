use Rattle.std.proofs.Common.{◌≡◌, ℕ, ◌<◌, ◌≤◌, None}
use Rattle.ca_arena.specs.Arena.{place_at}
use Rattle.ca_arena.proofs.arena.Arena.next_of.Given as goal

abbrev pub invariant-loop-index : goal.invariant-loop-index
invariant-loop-index g l =
    (k : ℕ) → l.start ≤ k → k < l.index → (place_at l.self.given k).value ≡ None
