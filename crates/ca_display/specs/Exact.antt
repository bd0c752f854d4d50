-- The decimal digits of a FLOAT or DOUBLE, the lowest first. Working definitions.
use Rattle.std.specs.Prelude.{◌≡◌, ℕ, ◌+◌, ◌*◌, ◌^◌, ◌<◌, ◌≤◌, ⊤, List, [], ◌∷◌, length}
use Rattle.std.specs.Float.{Float, nan, inf, fin}
use Rattle.std.specs.Float.Ieee.{up, down}
use Rattle.std.specs.Int.Digits.{AllBelowBase}
use Rattle.ca_display.specs.Decimal.{exact_units, exact_places}

abbrev pub number_of : List ℕ → ℕ
number_of [] = 0
number_of (d ∷ ds) = d + 10 * number_of ds

-- n above digits
abbrev pub with_above : List ℕ → ℕ → ℕ
with_above ds n = number_of ds + n * 10 ^ length ds

-- the digits of n, of which the highest is not 0
pub record AreDigits (ds : List ℕ) (n : ℕ) : Type 0 where
  pub below : AllBelowBase 10 ds
  pub value : number_of ds ≡ n
  pub high : 0 < length ds → 10 ^ length ds ≤ 10 * n

-- digits of a number, q of them after the point: enough of both to round it
pub record CanRound (ds : List ℕ) (q : ℕ) : Type 0 where
  pub digits : AreDigits ds (number_of ds)
  pub places : 18 ≤ q
  pub few : q ≤ 1092
  pub count : 0 < length ds → 18 < length ds

-- n units of 10 ^ -q are the size of a finite number
abbrev pub IsSize : Float → ℕ → ℕ → Type 0
IsSize nan n q = ⊥
IsSize (inf s) n q = ⊥
IsSize (fin s m e) n q = n * 10 ^ exact_places e ≡ exact_units m e * 10 ^ q

-- it is at most that far from zero, if it is finite
abbrev pub IsUpTo : ℕ → Float → Type 0
IsUpTo limit nan = ⊤
IsUpTo limit (inf s) = ⊤
IsUpTo limit (fin s m e) = m * up e ≤ limit * down e
