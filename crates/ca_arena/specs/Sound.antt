-- What holds of the contents of every arena.
use Rattle.std.specs.Prelude.{ℕ, ◌≡◌, ◌≢◌, ◌+◌, ◌<◌, ◌≤◌, ◌⊎◌, List, [], ◌∷◌, length, None}
use Rattle.std.specs.List.{AllByRecursion}
use Rattle.ca_text.specs.Limits.{arena_slots}
use Rattle.ca_text.specs.Limits.{last_generation}
use Rattle.ca_arena.specs.Arena.{Place, Contents, place_at, live_count}

-- the index is one of these
abbrev pub IsListed : ℕ → List ℕ → Type 0
IsListed index [] = ⊥
IsListed index (other ∷ rest) = (other ≡ index) ⊎ IsListed index rest

module _ {T : Type 0} where
  -- the index was given, has no value, and has a generation left to give
  pub record IsFree (given : List (Place T)) (index : ℕ) : Type 0 where
    pub within : index < length given
    pub vacant : (place_at given index).value ≡ None
    pub lasting : (place_at given index).generation < last_generation

  -- all of these are free, and each is here once
  abbrev pub AreFree : List (Place T) → List ℕ → Type 0
  AreFree given [] = Unit {0}
  AreFree given (index ∷ rest) =
      IsFree given index × AllByRecursion (λ other. other ≢ index) rest × AreFree given rest

  -- there are at most n indices, and no generation beyond the last; what is listed as free is free,
  -- and all that is free is listed; and the free indices and those with a value are together no
  -- more than were given
  pub record IsSound (a : Contents T) : Type 0 where
    pub limit : length a.given ≤ arena_slots
    pub fits : (index : ℕ) → (place_at a.given index).generation ≤ last_generation
    pub free : AreFree a.given a.freed
    pub listed : (index : ℕ) → IsFree a.given index → IsListed index a.freed
    pub counted : length a.freed + live_count a.given ≤ length a.given
