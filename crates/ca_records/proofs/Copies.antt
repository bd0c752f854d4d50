-- Records that are copied one after another.
use Rattle.std.proofs.Common.{◌≡◌, ℕ, zero, suc, ◌+◌, ◌<◌, List, [], ◌∷◌, ◌++◌, length, take, drop, get_or, refl, sym, ap, ◌∙◌, subst, arith}
use Rattle.std.proofs.lemmas.List.{length-take, take-append-drop, take_more}
use Rattle.ca_text.specs.Place.{At}
use Rattle.ca_text.proofs.Places.{At-append, At-within}
use Rattle.ca_records.specs.Record.{RecordState}
use Rattle.ca_records.specs.Records.{AreApart, IsServed}

pub at_get : {A : Type 0} (xs : List A) (i : ℕ) (d : A) → i < length xs → At xs i (get_or xs i d)
at_get [] i d lt = absurd (omega arith)
at_get (x ∷ xs) zero d lt = refl
at_get (x ∷ xs) (suc i) d lt = at_get xs i d (omega arith)

-- none of the records before has the next one's name
pub copy-fresh : (xs : List RecordState) (i : ℕ) (x : RecordState) → AreApart xs → i < length xs → x ≡ get_or xs i x → IsServed (take i xs) x.name → ⊥
copy-fresh xs i x apart lt is served =
    let names = served.1 in
    let within = At-within (take i xs) served.0 names.state names.at in
    let there : At xs served.0 names.state = subst (λ (t : List RecordState). At t served.0 names.state) (take-append-drop i xs) (At-append (take i xs) (drop i xs) served.0 names.state names.at) in
    let here : At xs i x = subst (λ (r : RecordState). At xs i r) (sym is) (at_get xs i x lt) in
    let same : served.0 ≡ i = apart served.0 i names.state x there here names.named in
    omega (arith, within, length-take i xs)

pub copy-more : (xs copy new : List RecordState) (i : ℕ) (x : RecordState) → i < length xs → x ≡ get_or xs i x → copy ≡ take i xs → new ≡ copy ++ x ∷ [] → new ≡ take (i + 1) xs
copy-more xs copy new i x lt is was more =
    more ∙ ap (λ (t : List RecordState). t ++ x ∷ []) was ∙ ap (λ (r : RecordState). take i xs ++ r ∷ []) is ∙ sym (take_more xs i x lt)
