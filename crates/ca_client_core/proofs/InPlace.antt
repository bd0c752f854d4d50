-- Circuits that are wanted, place by place.
use Rattle.std.proofs.Common.{◌≡◌, ◌∙◌, ℕ, zero, suc, ◌+◌, ◌<◌, List, [], ◌∷◌, Option, Some, None, Ok, Err, ap, arith, drop, length, refl, sym}
use Rattle.std.specs.Prelude.{filter_map, option_and_then, slice_get}
use Rattle.std.specs.List.{cons_option}
use Rattle.std.proofs.Math.Numerals.{add-one}
use Rattle.ca_model.specs.ClientCalls.{WantedCircuit}
use Rattle.ca_client_core.specs.Wanted.{Passes}

-- those from a place on
pub from-place : {A B : Type 0} (f : A → Option B) (xs : List A) (i : ℕ) → i < length xs → filter_map f (drop i xs) ≡ cons_option (option_and_then f (slice_get xs i)) (filter_map f (drop (i + 1) xs))
from-place f [] i within = absurd (omega (arith, within))
from-place f (x ∷ xs) zero within = refl
from-place f (x ∷ xs) (suc i) within =
    from-place f xs i (omega (arith, within))
    ∙ ap (λ (k : ℕ). cons_option (option_and_then f (slice_get xs i)) (filter_map f (drop k (x ∷ xs)))) {x = suc (i + 1)} {y = suc i + 1} (omega arith)

-- this one is passed over
pub passed-one : (o : Option WantedCircuit) (ws : List WantedCircuit) (left n : ℕ) → Passes o left (Err n) → slice_get (cons_option o ws) left ≡ slice_get ws n
passed-one None ws left n is = ap (slice_get ws) is
passed-one (Some w) ws left n is = ap (slice_get (w ∷ ws)) (is ∙ add-one n)

-- or it is the one
pub the-one : (o : Option WantedCircuit) (ws : List WantedCircuit) (left : ℕ) (w : WantedCircuit) → Passes o left (Ok w) → slice_get (cons_option o ws) left ≡ Some w
the-one None ws left w is = absurd is
the-one (Some v) ws left w (first, same) =
    ap (slice_get (v ∷ ws)) first ∙ ap (λ (z : WantedCircuit). let o : Option WantedCircuit = Some z in o) (sym same)
