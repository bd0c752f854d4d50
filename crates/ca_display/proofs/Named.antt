-- The first state that has a name.
use Rattle.std.proofs.Common.{◌≡◌, ℕ, ◌<◌, true, false, not, List, [], length, get_or, sym, ap, arith}
use Rattle.std.specs.List.{position_or_len}
use Rattle.std.proofs.lemmas.List.Sums.{prefix_len_is}
use Rattle.ca_display.specs.States.{is_named}

abbrev Others : List ℕ → List (List ℕ) → ℕ → Type 0
Others text states i = (k : ℕ) (d : List ℕ) → k < i → is_named text (get_or states k d) ≡ false

pub place-found : (text : List ℕ) (states : List (List ℕ)) (i : ℕ) (d : List ℕ) → i < length states → Others text states i → is_named text (get_or states i d) ≡ true → i ≡ position_or_len (is_named text) states
place-found text states i d within each here =
    sym (prefix_len_is (λ x. not (is_named text x)) states i d (omega arith) (λ k h. ap not (each k d h)) (λ h. ap not here))

pub place-none : (text : List ℕ) (states : List (List ℕ)) → Others text states (length states) → length states ≡ position_or_len (is_named text) states
place-none text states each =
    sym (prefix_len_is (λ x. not (is_named text x)) states (length states) [] (omega arith) (λ k h. ap not (each k [] h)) (λ h. absurd (omega arith)))
