use Rattle.std.proofs.Common.{◌≡◌, ◌+◌, [], length}
use Rattle.ca_arena.specs.StoredLayout.{all_items}
use Rattle.ca_arena.proofs.blocks.Blocks.free.Given as goal

abbrev pub invariant-loop-freed : goal.invariant-loop-freed
invariant-loop-freed g l = (l._freed + length l.blocks.items ≡ l._freed-end) × (all_items l.blocks.items ≡ [])
