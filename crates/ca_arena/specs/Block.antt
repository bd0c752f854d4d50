-- What a block owns, and what a `&` to one lends.
use Rattle.std.specs.Prelude.{ℕ, ◌*◌, ◌^◌, List, length}
use Rattle.std.specs.Mem.{type_size}
use Rattle.core.specs.Allocator.{block_with_items}
use base.Fml.{Lft, Fml, fsep, flt}
use mir.Syntax.{Ty}
use denote.Array.{Array}
use denote.RattleType.{RattleType}
use denote.RawPtr.{Ptr, in_block}
use denote.Sharing.{said, beside}
use denote.Struct.Lending.{lent_at}

-- how many slots a block has
abbrev pub block_slots : ℕ
block_slots = 64

module _ (R : RattleType) where
  -- the slots take fewer than 2 ^ 63 bytes
  abbrev pub slots_fit : Fml
  slots_fit = flt (block_slots * type_size R) (2 ^ 63)

  -- the items side by side from the first slot on, room in the others, and the right to
  -- give the memory back
  abbrev pub owns_slots : (Ty → Ptr → Fml) → Ptr → List R.Denot → Fml
  owns_slots right first items =
      fsep slots_fit
      (in_block first (block_with_items right R first (length items) block_slots items))

  -- a `&` to each item
  abbrev pub lends_slots : Ptr → List R.Denot → Lft → Fml
  lends_slots first items = beside (said slots_fit) (lent_at (Array R (length items)) first items)
