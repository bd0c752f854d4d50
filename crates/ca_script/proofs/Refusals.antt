-- Refusals that are handed on.
use Rattle.std.proofs.Common.{◌≡◌, ◌<◌, ℕ, List, ◌∷◌, length, sym, subst}
use Rattle.std.specs.Prelude.{Result, Ok, Err, IfErr}
use Rattle.ca_text.specs.declared.refusal.Refusal.{Refusal}
use Rattle.ca_text.specs.declared.refusal.Refusal.TheVariants.{BadText, OutOfMemory}
use Rattle.ca_script.specs.Grammar.{Refuses}

-- what says the whole would say this part, which was refused
pub refuses-whole : {A B : Type 0} (Part : A → Type 0) (Whole : B → Type 0) (e : Refusal) → ((y : B) → Whole y → (x : A) × Part x) → Refuses Part e → Refuses Whole e
refuses-whole Part Whole BadText part nay = λ y says. nay (part y says).0 (part y says).1
refuses-whole Part Whole OutOfMemory part nay = tt
refuses-whole Part Whole _ part nay = absurd nay

-- a text that says nothing of the kind is refused as one
pub says-none : {A : Type 0} (Says : A → Type 0) (e : Refusal) → e ≡ BadText → ((x : A) → Says x → ⊥) → Refuses Says e
says-none Says e is none = subst (λ (r : Refusal). Refuses Says r) (sym is) none

-- the next piece is none that has a byte
abbrev pub NoWord : List (List ℕ) → Type 0
NoWord words = (w : List ℕ) (ws : List (List ℕ)) → words ≡ w ∷ ws → 0 < length w → ⊥

-- a call's refusal, as another reads it
pub err-then : {T : Type 0} (r : Result T Refusal) (P Q : Refusal → Type 0) → ((e : Refusal) → P e → Q e) → IfErr r P → IfErr r Q
err-then (Ok x) P Q f h = tt
err-then (Err e) P Q f h = f e h
