-- Statement: when one list is another with some of its items left out.
use Rattle.std.specs.Prelude.{ℕ, ◌<◌, List, length}
use Rattle.ca_text.specs.Place.{At}

-- Each item of xs is in ys too, at a place that is later than those of the items before it.
pub record IsSubsequence {A : Type 0} (xs ys : List A) : Type 0 where
  pub place : ℕ → ℕ
  pub same : (i : ℕ) (x : A) → At xs i x → At ys (place i) x
  pub rises : (i j : ℕ) → i < j → j < length xs → place i < place j
