-- What a slot of an arena stands for.
use Rattle.std.specs.Prelude.{ℕ, Some, None}
use Rattle.ca_arena.specs.declared.slot.Slot.{Slot}
use Rattle.ca_arena.specs.declared.slot.Slot.TheVariants.{Filled, Vacant}
use Rattle.ca_arena.specs.Arena.{Place}

module _ {T : Type 0} where
  -- what is at its index
  abbrev pub place_of : Slot T → Place T
  place_of (Vacant generation next) = record { generation = generation; value = None }
  place_of (Filled generation value) = record { generation = generation; value = Some value }

  -- the index that was freed before this one, if it is a free one
  abbrev pub link_of : Slot T → ℕ
  link_of (Vacant generation next) = next
  link_of (Filled generation value) = 0
