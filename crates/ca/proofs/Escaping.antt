-- The test of the words is that of their texts.
use Rattle.std.proofs.Common.{◌≡◌, Bool, List, [], ◌∷◌, refl, map, ◌∙◌, codes}
use Rattle.std.specs.List.{list_any}
use Rattle.std.specs.Str.{bytes_eq}
use Rattle.clap.specs.Words.{Text}
use Rattle.ca.specs.Words.{has_escape}

list_any-map : {X Y : Type 0} (p : Y → Bool) (f : X → Y) (xs : List X) → list_any (λ x. p (f x)) xs ≡ list_any p (map f xs)
list_any-map p f [] = refl
list_any-map p f (x ∷ xs) = rw (list_any-map p f xs) refl

pub texts-escape : {W : Type 0} (text : W → Text) (words : List W) (b : Bool) → b ≡ list_any (λ word. bytes_eq (text word) (codes "--")) words → b ≡ has_escape (map text words)
texts-escape text words b e = e ∙ list_any-map (λ w. bytes_eq w (codes "--")) text words
