-- Places of lists.
use Rattle.std.specs.Prelude.{ℕ, ◌≡◌, List, Some, slice_get}

-- x is at this place of the list
abbrev pub At : {A : Type 0} → List A → ℕ → A → Type 0
At xs k x = slice_get xs k ≡ Some x
