-- What the fields of an arena stand for. No clause of a caller needs it.
use Rattle.std.specs.Prelude.{ℕ, ◌≡◌, ◌+◌, zero, suc, List, [], ◌∷◌, length, map, slice_get, Option}
use Rattle.std.specs.Prelude.{Some, None}
use Rattle.ca_text.specs.Limits.{arena_slots}
use Rattle.ca_arena.specs.declared.slot.Slot.{Slot}
use Rattle.ca_arena.specs.Arena.{Contents, live_count}
use Rattle.ca_arena.specs.Slot.{link_of, place_of}
use Rattle.ca_arena.specs.Sound.{IsSound}

module _ {T : Type 0} where
  -- the link of a slot that was read
  abbrev pub link_read : Option (Slot T) → ℕ
  link_read None = 0
  link_read (Some slot) = link_of slot

  -- n free indices, from this one on: the slot of each names the one that was freed before it
  abbrev pub freed_from : List (Slot T) → ℕ → ℕ → List ℕ
  freed_from slots zero index = []
  freed_from slots (suc count) index =
      index ∷ freed_from slots count (link_read (slice_get slots index))

  -- what the slot of the last of them names
  abbrev pub freed_end : List (Slot T) → ℕ → ℕ → ℕ
  freed_end slots zero index = index
  freed_end slots (suc count) index = freed_end slots count (link_read (slice_get slots index))

  -- what the fields stand for: the slots, how many indices are free again, and
  -- which one was freed last
  abbrev pub contents_of : List (Slot T) → ℕ → ℕ → Contents T
  contents_of slots freed first =
      record { given = map place_of slots; freed = freed_from slots freed first }

  -- the fields stand for something sound; each index has a value, is free or is retired; and after
  -- the last of the free ones comes none
  pub record IsLaidOut (slots : List (Slot T)) (freed first retired : ℕ) : Type 0 where
    pub sound : IsSound (contents_of slots freed first)
    pub counted : live_count (map place_of slots) + freed + retired ≡ length slots
    pub ended : freed_end slots freed first ≡ arena_slots
