-- Lists that are made element by element.
use Rattle.std.proofs.Common.{◌≡◌, ℕ, zero, suc, ◌+◌, List, [], ◌∷◌, ◌++◌, append_assoc, drop, sym, ap, ◌∙◌, arith}
use Rattle.std.specs.Prelude.{map}
use Rattle.std.proofs.lemmas.List.{map-append}
use Rattle.ca_text.specs.Place.{At}
use Rattle.ca_text.proofs.Places.{some_is}
use Rattle.ca_model.specs.World.{numbered}

-- what is at a place is the first of those from there on
pub drop-next : {A : Type 0} (xs : List A) (i : ℕ) (x : A) → At xs i x → drop i xs ≡ x ∷ drop (i + 1) xs
drop-next [] i x at = absurd cc
drop-next (y ∷ xs) zero x at = ap (λ (z : _). z ∷ xs) (some_is y x at)
drop-next (y ∷ xs) (suc i) x at = (let e : suc i + 1 ≡ suc (i + 1) = omega arith in rw e (drop-next xs i x at))

-- one more was made
pub begun-next : {A B C : Type 0} (seen : A → B) (f : ℕ → C → B) (done : List A) (r : A) (new : List A) (xs : List C) (i : ℕ) (x : C) → At xs i x → new ≡ done ++ r ∷ [] → seen r ≡ f i x
    → map seen new ++ numbered (i + 1) f (drop (i + 1) xs) ≡ map seen done ++ numbered i f (drop i xs)
begun-next {A} {B} {C} seen f done r new xs i x at is same =
    let rest : List B = numbered (i + 1) f (drop (i + 1) xs) in
    ap (λ (t : List A). map seen t ++ rest) is ∙ ap (λ (t : List B). t ++ rest) (map-append seen done (r ∷ [])) ∙ append_assoc (map seen done) (seen r ∷ []) rest ∙ ap (λ (t : B). map seen done ++ t ∷ rest) same
    ∙ sym (ap (λ (t : List C). map seen done ++ numbered i f t) (drop-next xs i x at))
