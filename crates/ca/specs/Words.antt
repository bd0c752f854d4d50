-- The words after the program's name.
use Rattle.std.specs.Prelude.{Bool, List, ℕ, codes}
use Rattle.std.specs.List.{list_any}
use Rattle.std.specs.Str.{bytes_eq}

-- some word is the one at which options end
abbrev pub has_escape : List (List ℕ) → Bool
has_escape words = list_any (λ word. bytes_eq word (codes "--")) words
