-- Words that are read one by one.
use Rattle.std.proofs.Common.{◌≡◌, ◌<◌, ℕ, List, [], ◌∷◌, ◌++◌, length, sym, ap, ◌∙◌, subst}
use Rattle.std.proofs.lemmas.List.{append_assoc}
use Rattle.ca_script.specs.Lines.{AreEach}

-- one word more was read
pub each-on : {A : Type 0} (Is : List ℕ → A → Type 0) (all words rest : List (List ℕ)) (w : List ℕ) (x : A) (items more : List A) → words ≡ w ∷ rest → 0 < length w → Is w x → more ≡ items ++ x ∷ [] → ((xs : List A) → AreEach Is words xs → AreEach Is all (items ++ xs)) → (xs : List A) → AreEach Is rest xs → AreEach Is all (more ++ xs)
each-on {A} Is all words rest w x items more first some is added leads xs h =
    let here : AreEach Is words (x ∷ xs) = subst (λ (ws : List (List ℕ)). AreEach {A = A} Is ws (x ∷ xs)) (sym first) (some, is, h) in
    let same : items ++ x ∷ xs ≡ more ++ xs = sym (append_assoc items (x ∷ []) xs) ∙ ap (λ (ys : List A). ys ++ xs) (sym added) in
    subst (λ (ys : List A). AreEach {A = A} Is all ys) same (leads (x ∷ xs) here)

each-rest : {A : Type 0} (Is : List ℕ → A → Type 0) (rest : List (List ℕ)) (w : List ℕ) (ys : List A) → AreEach Is (w ∷ rest) ys → (zs : List A) × AreEach Is rest zs
each-rest Is rest w [] h = absurd h
each-rest Is rest w (y ∷ ys) h = (ys, h.2)

-- what is left after one word
pub each-left : {A : Type 0} (Is : List ℕ → A → Type 0) (all words rest : List (List ℕ)) (w : List ℕ) → words ≡ w ∷ rest → ((xs : List A) → AreEach Is all xs → (ys : List A) × AreEach Is words ys) → (xs : List A) → AreEach Is all xs → (ys : List A) × AreEach Is rest ys
each-left {A} Is all words rest w first leaves xs h =
    let here : (ys : List A) × AreEach Is words ys = leaves xs h in
    each-rest Is rest w here.0 (subst (λ (ws : List (List ℕ)). AreEach {A = A} Is ws here.0) first here.1)
