-- Lines in a row.
use Rattle.std.proofs.Common.{◌≡◌, ℕ, List, [], ◌∷◌, ◌++◌, refl, sym, ap, ◌∙◌, subst}
use Rattle.std.proofs.lemmas.List.{append-nil, append_assoc}
use Rattle.ca_text.specs.declared.refusal.Refusal.{Refusal}
use Rattle.ca_text.specs.declared.refusal.Refusal.TheVariants.{BadText, OutOfMemory}
use Rattle.ca_script.specs.Grammar.{Lead, Refuses, lines_of, parted}
use Rattle.ca_world_script.specs.Scripts.{Adds, AddsAll, Reading, RefusesScript, nothing}

-- one line more
pub lead-more : {S : Type 0} (Adds : S → List (List ℕ) → S → Type 0) (old mid new : S) (lines : List (List ℕ)) (line : List ℕ) → Lead Adds old lines mid → Adds mid (parted 32 line) new → Lead Adds old (lines ++ line ∷ []) new
lead-more {S} Adds old mid new [] line h adds = (new, subst (λ (x : S). Adds x (parted 32 line) new) h adds, refl)
lead-more Adds old mid new (l ∷ ls) line (next, first, rest) adds = (next, first, lead-more Adds next mid new ls line rest adds)

-- the lines above, and those left after one more
pub parts-on : (text left left' line : List ℕ) (above : List (List ℕ)) → lines_of text ≡ above ++ lines_of left → lines_of left ≡ line ∷ lines_of left' → lines_of text ≡ (above ++ line ∷ []) ++ lines_of left'
parts-on text left left' line above split next =
    split ∙ ap (λ (ls : List (List ℕ)). above ++ ls) next ∙ sym (append_assoc above (line ∷ []) (lines_of left'))

-- all lines were read
pub parts-done : (text left : List ℕ) (above : List (List ℕ)) (r : Reading) → lines_of text ≡ above ++ lines_of left → lines_of left ≡ [] → AddsAll nothing above r → AddsAll nothing (lines_of text) r
parts-done text left above r split none h =
    let all : above ≡ lines_of text = sym (append-nil above) ∙ ap (λ (ls : List (List ℕ)). above ++ ls) (sym none) ∙ sym split in
    subst (λ (ls : List (List ℕ)). AddsAll nothing ls r) all h

-- the next line says nothing
pub script-refused : (text left line : List ℕ) (above below : List (List ℕ)) (r : Reading) (e : Refusal) → lines_of text ≡ above ++ lines_of left → lines_of left ≡ line ∷ below → AddsAll nothing above r → Refuses (Adds r (parted 32 line)) e → RefusesScript text e
script-refused text left line above below r BadText split next h nay = record {
  above = above;
  line = line;
  below = below;
  r = r;
  are = split ∙ ap (λ (ls : List (List ℕ)). above ++ ls) next;
  reads = h;
  none = nay;
}
script-refused text left line above below r OutOfMemory split next h nay = tt
script-refused text left line above below r _ split next h nay = absurd nay
