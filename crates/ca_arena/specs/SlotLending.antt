-- What a slot ends as, when a `&mut` to its value was handed out.
use Rattle.std.specs.Borrow.{Lends, Fml, RattleType, MutBor}
use Rattle.ca_arena.specs.declared.slot.Slot.{Slot}
use Rattle.ca_arena.specs.declared.slot.Slot.TheVariants.{Filled}
use Rattle.ca_arena.specs.contracts.slot.Slot as slot
use Rattle.ca_arena.specs.Slot.{place_of}

-- it ends with the last value that the result refers to, in the same generation
abbrev pub lends_value : (T : RattleType) → MutBor (Slot T.Denot) → MutBor T.Denot → Fml
lends_value T s r = Lends (slot.the_row T) T s r (Filled (place_of s.now).generation)
