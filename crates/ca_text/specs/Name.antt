-- Names of channels and records.
use Rattle.std.specs.Prelude.{ℕ, ◌<◌, ◌≤◌, List, length, Contains}

-- one to n bytes, none of them zero
pub record IsName (limit : ℕ) (bytes : List ℕ) : Type 0 where
  pub some : 0 < length bytes
  pub within : length bytes ≤ limit
  pub whole : Contains bytes 0 → ⊥
