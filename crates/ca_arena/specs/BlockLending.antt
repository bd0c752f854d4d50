-- What a block ends as, when its items are others, and when a `&mut` to one of them was handed out.
use Rattle.std.specs.Prelude.{ℕ, List, slice_set}
use Rattle.std.specs.Borrow.{Fml, RattleType, MutBor, Lends}
use Rattle.core.specs.declared.alloc.Allocator.{Ghosts}
use Rattle.ca_arena.specs.declared.block.Block.{Block}
use Rattle.ca_arena.specs.contracts.block.Block as block

-- the same block with other items
abbrev pub with_items : {X A : Type 0} → Block X A → List X → Block X A
with_items block items =
    record { first = block.first; by = block.by; alloc = block.alloc; items = items }

-- the item at the index ends as the last one that the result refers to
abbrev pub lends_slot : (R A : RattleType) → Ghosts A.Denot → MutBor (Block R.Denot A.Denot) → ℕ
    → MutBor R.Denot → Fml
lends_slot R A g b index r =
    Lends (block.the_row R A g) R b r (λ item. with_items b.now (slice_set b.now.items index item))
