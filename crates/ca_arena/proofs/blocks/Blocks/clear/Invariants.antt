use Rattle.std.proofs.Common.{◌≡◌, ◌+◌, length}
use Rattle.ca_arena.proofs.blocks.Blocks.clear.Given as goal

abbrev pub invariant-loop-dropped : goal.invariant-loop-dropped
invariant-loop-dropped g l = l._dropped + length l.self.items ≡ l._dropped-end
