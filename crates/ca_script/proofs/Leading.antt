-- Lines that lead from one reading to another. What may come next hangs on a shape of what was
-- read, in which readings can be alike.
use Rattle.std.proofs.Common.{◌≡◌, ℕ, List, [], ◌∷◌, refl, sym, ap, ◌∙◌, subst}
use Rattle.std.specs.Prelude.{Result, IfErr}
use Rattle.ca_text.specs.declared.refusal.Refusal.{Refusal}
use Rattle.ca_script.specs.Grammar.{Lead, Refuses, lines_of, parted}
use Rattle.ca_script.proofs.Heads.{lines-none}
use Rattle.ca_script.proofs.Refusals.{err-then, refuses-whole}

-- one line more
pub leads-on : {S : Type 0} (Adds : S → List (List ℕ) → S → Type 0) (old mid final : S) (line left left' : List ℕ) → lines_of left ≡ line ∷ lines_of left' → Adds old (parted 32 line) mid → Lead Adds mid (lines_of left') final → Lead Adds old (lines_of left) final
leads-on {S} Adds old mid final line left left' e adds h = subst (λ (ls : List (List ℕ)). Lead {S = S} Adds old ls final) (sym e) (mid, adds, h)

pub leads-here : {S : Type 0} (Adds : S → List (List ℕ) → S → Type 0) (old : S) (left : List ℕ) → left ≡ [] → Lead Adds old (lines_of left) old
leads-here {S} Adds old left e = subst (λ (ls : List (List ℕ)). Lead {S = S} Adds old ls old) (sym (lines-none left e)) refl

-- what can be read after one can be read after the other
reads-too : {S : Type 0} (Adds : S → List (List ℕ) → S → Type 0) (Alike : S → S → Type 0) → ((a b m : S) (words : List (List ℕ)) → Alike a b → Adds a words m → (to : S) × Adds b words to × Alike m to) → (a b final : S) (lines : List (List ℕ)) → Alike a b → Lead Adds a lines final → (end : S) × Lead Adds b lines end
reads-too Adds Alike goes a b final [] same h = (b, refl)
reads-too Adds Alike goes a b final (line ∷ lines) same (m, adds, more) =
    let next = goes a b m (parted 32 line) same adds in
    let rest = reads-too Adds Alike goes m next.0 final lines next.2 more in
    (rest.0, (next.0, next.1, rest.1))

-- where all lines that are left can be read, the others can be read after what the first
-- one was taken to say
pub follows-left : {S : Type 0} (Adds : S → List (List ℕ) → S → Type 0) (Alike : S → S → Type 0) → ((a b m : S) (words : List (List ℕ)) → Alike a b → Adds a words m → (to : S) × Adds b words to × Alike m to) → ((a m n : S) (words : List (List ℕ)) → Adds a words m → Adds a words n → Alike m n) → (here mid final : S) (line left left' : List ℕ) → lines_of left ≡ line ∷ lines_of left' → Adds here (parted 32 line) mid → Lead Adds here (lines_of left) final → (end : S) × Lead Adds mid (lines_of left') end
follows-left {S} Adds Alike goes same here mid final line left left' e adds h =
    let all : Lead Adds here (line ∷ lines_of left') final = subst (λ (ls : List (List ℕ)). Lead {S = S} Adds here ls final) e h in
    reads-too Adds Alike goes all.0 mid final (lines_of left') (same here all.0 mid (parted 32 line) all.1 adds) all.2

-- the next line says nothing, so all lines say nothing
pub lead-refused : {S : Type 0} (Adds : S → List (List ℕ) → S → Type 0) (here old : S) (line text left : List ℕ) (lines : List (List ℕ)) (e : Refusal) → lines_of left ≡ line ∷ lines → ((final : S) → Lead Adds old (lines_of text) final → (end : S) × Lead Adds here (lines_of left) end) → Refuses (Adds here (parted 32 line)) e → Refuses (Lead Adds old (lines_of text)) e
lead-refused {S} Adds here old line text left lines e next follows nay =
    refuses-whole (Adds here (parted 32 line)) (Lead Adds old (lines_of text)) e
    (λ (final : S) (h : Lead Adds old (lines_of text) final).
    let rest = follows final h in
    let all : Lead Adds here (line ∷ lines) rest.0 = subst (λ (ls : List (List ℕ)). Lead {S = S} Adds here ls rest.0) next rest.1 in
    (all.0, all.1))
    nay

-- a line whose first word is one of its kind, and which says nothing of that kind, says nothing
pub kind-refused : {S T : Type 0} (Adds Kind : S → List (List ℕ) → S → Type 0) (word : List ℕ) → ((a m : S) (rest words : List (List ℕ)) → words ≡ word ∷ rest → Adds a words m → Kind a words m) → (r : Result T Refusal) (old : S) (words rest : List (List ℕ)) (first : List ℕ) → words ≡ first ∷ rest → first ≡ word → IfErr r (λ e. Refuses (Kind old (word ∷ rest)) e) → IfErr r (λ e. Refuses (Adds old words) e)
kind-refused {S} Adds Kind word of r old words rest first split is nay =
    let are : words ≡ word ∷ rest = split ∙ ap (λ (w : List ℕ). w ∷ rest) is in
    err-then r (λ e. Refuses (Kind old (word ∷ rest)) e) (λ e. Refuses (Adds old words) e)
    (λ e no. refuses-whole (Kind old (word ∷ rest)) (Adds old words) e (λ (new : S) (h : Adds old words new). (new, subst (λ (ws : List (List ℕ)). Kind old ws new) are (of old new rest words are h))) no) nay
