-- Working: a change to each place of a table, one place after another.
use Rattle.std.specs.Prelude.{ℕ, ◌++◌, drop, map, slice_set, take}
use Rattle.ca_arena.specs.Arena.{Place, place_at}
use Rattle.ca_ids.specs.Table.{Table}

module _ {T : Type 0} where
  -- the table with this place changed
  abbrev pub with_place : ℕ → (Place T → Place T) → Table T → Table T
  with_place i f t = slice_set t i (f (place_at t i))

  -- the table with the first places changed
  abbrev pub walked : (Place T → Place T) → ℕ → Table T → Table T
  walked f i t = map f (take i t) ++ drop i t
