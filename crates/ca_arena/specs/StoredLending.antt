-- What the blocks end as, where a `&mut` to one of the items was handed out.
use Rattle.std.specs.Prelude.{ℕ}
use Rattle.std.specs.Borrow.{Lends, Fml, RattleType, MutBor}
use Rattle.ca_arena.specs.contracts.blocks.Blocks as blocks
use Rattle.ca_arena.specs.Stored.{Stored, with_item}

-- the item at the index ends as the last one that the result refers to
abbrev pub lends_item : (T : RattleType) → MutBor (Stored T.Denot) → ℕ → MutBor T.Denot → Fml
lends_item T s index r = Lends (blocks.the_row T) T s r (with_item s.now index)
