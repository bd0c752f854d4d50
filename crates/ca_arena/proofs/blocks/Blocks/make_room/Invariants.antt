use Rattle.std.proofs.Common.{◌≡◌, ◌≤◌, ◌*◌}
use Rattle.ca_arena.specs.Block.{block_slots}
use Rattle.ca_arena.proofs.blocks.Blocks.make_room.Given as goal

abbrev pub invariant-loop-block : goal.invariant-loop-block
invariant-loop-block g l = (l.self.items ≡ l.initial.self.items) × (l._block * block_slots ≤ l.self.room)
