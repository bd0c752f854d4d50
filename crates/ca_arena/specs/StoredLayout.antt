-- What the blocks stand for.
use Rattle.std.specs.Prelude.{ℕ, ◌≡◌, ◌*◌, ◌-◌, List, [], ◌∷◌, ◌++◌, length, min}
use Rattle.ca_arena.specs.declared.block.Block.{Block}
use Rattle.ca_arena.specs.Block.{block_slots}
use Rattle.ca_arena.specs.Stored.{Stored}

module _ {X A : Type 0} where
  -- the items of all blocks, from the first block on
  abbrev pub all_items : List (Block X A) → List X
  all_items [] = []
  all_items (block ∷ rest) = block.items ++ all_items rest

  -- what they stand for
  abbrev pub stored_of : List (Block X A) → Stored X
  stored_of blocks = record { items = all_items blocks; room = length blocks * block_slots }

  -- there are n items, and each block is full before the next has one
  abbrev pub AreFilled : ℕ → List (Block X A) → Type 0
  AreFilled count [] = count ≡ 0
  AreFilled count (block ∷ rest) =
      (length block.items ≡ min block_slots count) × AreFilled (count - block_slots) rest
