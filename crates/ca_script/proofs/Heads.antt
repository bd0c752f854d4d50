-- What the lines of a script say together.
use Rattle.std.proofs.Common.{◌≡◌, ◌++◌, ℕ, Bor, Option, Some, None, Bool, true, false, cond, eqb, get_or, List, [], ◌∷◌, length, drop, refl, sym, ap, ◌∙◌, subst, arith}
use Rattle.std.specs.Prelude.{Result, Ok, Err, OnErr, OnOk, option_map, unwrap_or}
use Rattle.std.proofs.lemmas.List.{append-nil}
use Rattle.ca_text.specs.declared.refusal.Refusal.{Refusal}
use Rattle.ca_script.specs.Grammar.{AreNumbers, IsNumber, lines_of, longer, parted, pieces_left, whole_lines}
use Rattle.ca_script.specs.Lines.{AreEach}
use Rattle.ca_script.proofs.Partings.{parted-is-some}

pub ok-then : {T E P Q : Type 0} (r : Result T E) → (P → Q) → OnOk r P → OnOk r Q
ok-then (Ok x) f p = f p
ok-then (Err e) f p = tt

pub numbers-more : (words rest : List (List ℕ)) (n : ℕ) (ns : List ℕ) → (w : List ℕ) × (words ≡ w ∷ rest) × IsNumber w n → AreNumbers rest ns → AreNumbers words (n ∷ ns)
numbers-more words rest n ns first h = subst (λ (x : List (List ℕ)). AreNumbers x (n ∷ ns)) (sym first.1) (first.2, h)

-- the lines of nothing
pub lines-none : (text : List ℕ) → text ≡ [] → lines_of text ≡ []
unfolding parted
lines-none text e = ap (λ (x : List ℕ). lines_of x) e

longer-is-longer : (x : ℕ) (pieces : List (List ℕ)) → longer x pieces ≡ [] ∷ [] → ⊥
longer-is-longer x [] h = absurd (omega (arith, ap (λ (ps : List (List ℕ)). length (get_or ps 0 [])) h))
longer-is-longer x (piece ∷ pieces) h = absurd (omega (arith, ap (λ (ps : List (List ℕ)). length (get_or ps 0 [])) h))

piece-not-alone : (b : Bool) (x : ℕ) (xs : List ℕ) → cond b ([] ∷ parted 10 xs) (longer x (parted 10 xs)) ≡ [] ∷ [] → ⊥
piece-not-alone true x xs h = parted-is-some 10 xs (ap (λ (ps : List (List ℕ)). drop 1 ps) h)
piece-not-alone false x xs h = longer-is-longer x (parted 10 xs) h

-- a text of one empty piece is empty
alone-empty : (text : List ℕ) → parted 10 text ≡ [] ∷ [] → text ≡ []
unfolding parted
alone-empty [] h = refl
alone-empty (x ∷ xs) h = absurd (piece-not-alone (eqb x 10) x xs h)

alone-whole : (text line : List ℕ) → (text ≡ [] → ⊥) → parted 10 text ≡ line ∷ [] → whole_lines (line ∷ []) ≡ line ∷ []
alone-whole text [] some e = absurd (some (alone-empty text e))
alone-whole text (x ∷ xs) some e = refl

line-more : (line : List ℕ) (pieces : List (List ℕ)) → (pieces ≡ [] → ⊥) → whole_lines (line ∷ pieces) ≡ line ∷ whole_lines pieces
line-more line [] some = absurd (some refl)
line-more [] (next ∷ lines) some = refl
line-more (x ∷ xs) (next ∷ lines) some = refl

-- the lines of what is left, where it is not empty
pub lines-next : (left line left' : List ℕ) (rest : Option (Bor (List ℕ))) (blank : Bor (List ℕ)) → (left ≡ [] → ⊥) → parted 10 left ≡ line ∷ pieces_left 10 (option_map (λ (r : Bor (List ℕ)). r.now) rest) → left' ≡ (unwrap_or rest blank).now → blank.now ≡ [] → lines_of left ≡ line ∷ lines_of left'
lines-next left line left' None blank some e is none =
    ap (λ (ps : List (List ℕ)). whole_lines ps) e ∙ alone-whole left line some e ∙ ap (λ (ls : List (List ℕ)). line ∷ ls) (sym (lines-none left' (is ∙ none)))
lines-next left line left' (Some r) blank some e is none =
    ap (λ (ps : List (List ℕ)). whole_lines ps) e ∙ line-more line (parted 10 r.now) (parted-is-some 10 r.now) ∙ ap (λ (t : List ℕ). line ∷ lines_of t) (sym is)

-- the lines begin with the first one
pub lines-begin : (left line : List ℕ) (rest : Option (Bor (List ℕ))) → (left ≡ [] → ⊥) → parted 10 left ≡ line ∷ pieces_left 10 (option_map (λ (r : Bor (List ℕ)). r.now) rest) → (lines : List (List ℕ)) × (lines_of left ≡ line ∷ lines)
lines-begin left line None some e = ([], ap (λ (ps : List (List ℕ)). whole_lines ps) e ∙ alone-whole left line some e)
lines-begin left line (Some r) some e = (whole_lines (parted 10 r.now), ap (λ (ps : List (List ℕ)). whole_lines ps) e ∙ line-more line (parted 10 r.now) (parted-is-some 10 r.now))

pub empty-of : (xs : List ℕ) → length xs ≡ 0 → xs ≡ []
empty-of [] h = refl
empty-of (x ∷ xs) h = absurd (omega (arith, h))

-- all words were read, as the elements of those before them and these
pub each-done : {A : Type 0} (Is : List ℕ → A → Type 0) (all words : List (List ℕ)) (items : List A) → ((xs : List A) → AreEach Is words xs → AreEach Is all (items ++ xs)) → words ≡ [] → AreEach Is all items
each-done {A} Is all words items leads e =
    let here : AreEach Is words [] = subst (λ (ws : List (List ℕ)). AreEach {A = A} Is ws []) (sym e) tt in
    subst (λ (xs : List A). AreEach Is all xs) (append-nil items) (leads [] here)

pub on_err : {A : Type 0} {P : Type 0} (r : Result A Refusal) → P → OnErr r P
on_err (Ok x) p = tt
on_err (Err e) p = p
