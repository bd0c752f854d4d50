-- Display data of a record: what a screen asks of it beside its value.
use Rattle.std.specs.Prelude.{ℕ, ◌≡◌, ◌<◌, ◌≤◌, ◌^◌, ℤ, List, length, All, FitsSigned}
use Rattle.std.specs.Int.{w16}

-- Units are the 8 bytes of a field, a state's name is the 26 of one; limits are bit patterns of
-- DOUBLEs, in the order that images have them.
pub record DisplayData : Type 0 where
  pub units : List ℕ
  pub precision : ℤ
  pub limits : List ℕ
  pub states : List (List ℕ)

-- each part is one of its kind, and there are at most 16 states
pub record IsData (d : DisplayData) : Type 0 where
  pub units : length d.units ≡ 8
  pub precision : FitsSigned w16 d.precision
  pub limits : length d.limits ≡ 8
  pub patterns : All (λ n. n < 2 ^ 64) d.limits
  pub states : length d.states ≤ 16
  pub names : All (λ x. length x ≡ 26) d.states
