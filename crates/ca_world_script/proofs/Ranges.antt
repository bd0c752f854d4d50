-- One number more.
use Rattle.std.proofs.Common.{◌≡◌, ℕ, ◌+◌, List, [], ◌∷◌, ◌++◌, sym, ap, ◌∙◌}
use Rattle.std.proofs.lemmas.Grind.{flat_map-append}
use Rattle.std.proofs.lemmas.List.{append-nil}
use Rattle.std.specs.List.{flat_map, range_with_len}
use Rattle.ca_world_data.proofs.Ranges.{range-more}

-- what is put after the texts of the first n is the text of the next
pub texts-more : (f : ℕ → List ℕ) (n : ℕ) (a b : List ℕ) → a ≡ flat_map f (range_with_len 0 n) → b ≡ a ++ f n → b ≡ flat_map f (range_with_len 0 (n + 1))
texts-more f n a b first next =
    next ∙ ap (λ (x : List ℕ). x ++ f n) first ∙ ap (λ (x : List ℕ). flat_map f (range_with_len 0 n) ++ x) (sym (append-nil (f n))) ∙ sym (flat_map-append f (range_with_len 0 n) (n ∷ [])) ∙ ap (λ (l : List ℕ). flat_map f l) (sym (range-more n))
