-- What words say, and what they do not.
use Rattle.std.proofs.Common.{◌≡◌, ℕ, ◌+◌, List, [], ◌∷◌, drop, get_or, refl, sym, ap, ◌∙◌, subst}
use Rattle.std.specs.Prelude.{Result, Ok, Err, IfErr, IsErrAnd}
use Rattle.std.specs.List.{sum}
use Rattle.ca_text.specs.declared.refusal.Refusal.{Refusal}
use Rattle.ca_script.specs.Grammar.{AreNumbers, IsNumber}

-- a refusal that was handed on
pub handed-on : {T : Type 0} (r : Result T Refusal) (e : Refusal) (P : Refusal → Type 0) → IsErrAnd r (λ x. x ≡ e) → P e → IfErr r P
handed-on (Ok x) e P h p = tt
handed-on (Err x) e P h p = subst P (sym h) p

-- the first of these words is no number
pub none-first : (words : List (List ℕ)) → ((w : List ℕ) (ws : List (List ℕ)) (n : ℕ) → words ≡ w ∷ ws → IsNumber w n → ⊥) → (n : ℕ) (ns : List ℕ) → AreNumbers words (n ∷ ns) → ⊥
none-first [] nay n ns h = absurd h
none-first (w ∷ ws) nay n ns h = nay w ws n refl h.0

-- after the first word stand the other numbers
pub behind-first : (words : List (List ℕ)) (w : List ℕ) (rest : List (List ℕ)) → words ≡ w ∷ rest → (n : ℕ) (ns : List ℕ) → AreNumbers words (n ∷ ns) → AreNumbers rest ns
behind-first words w rest e n ns h = let both : AreNumbers (w ∷ rest) (n ∷ ns) = subst (λ (x : List (List ℕ)). AreNumbers x (n ∷ ns)) e h in both.1

pub no-numbers : (words : List (List ℕ)) → AreNumbers words [] → words ≡ []
no-numbers [] h = refl
no-numbers (w ∷ ws) h = absurd h

-- a number for each first word, by which they are told apart
abbrev pub mark : List ℕ → ℕ
mark w = sum w + get_or w 0 0

pub apart : (x y : List ℕ) (xs ys words : List (List ℕ)) → (mark x ≡ mark y → ⊥) → words ≡ x ∷ xs → words ≡ y ∷ ys → ⊥
apart x y xs ys words other a b = other (ap (λ (ws : List (List ℕ)). mark (get_or ws 0 x)) (sym a ∙ b))

pub behind-same : (x y : List ℕ) (xs ys words : List (List ℕ)) → words ≡ x ∷ xs → words ≡ y ∷ ys → xs ≡ ys
behind-same x y xs ys words a b = ap (λ (ws : List (List ℕ)). drop 1 ws) (sym a ∙ b)
