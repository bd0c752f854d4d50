-- Results that are gathered one by one, as loops keep them.
use Rattle.std.specs.List.{flat_map}
use Rattle.std.proofs.lemmas.List.{at_drop_more, flat_map_more}
use Rattle.std.proofs.lemmas.List.Elements.{All-push}
use Rattle.std.proofs.Common.{All, ◌≡◌, ◌<◌, ◌+◌, ℕ, List, [], ◌∷◌, length, get_or, refl, sym, ap, ◌∙◌, append_assoc, ◌++◌, drop, Result, Ok, Err, Option, Some, None}
use Rattle.ca_text.specs.declared.refusal.Refusal.{Refusal}
use Rattle.ca_dbr.specs.Conversion.{gathered, first_and}

-- what was gathered so far, and then this
abbrev pub prefixed : {T : Type 0} → List T → Result (List T) Refusal → Result (List T) Refusal
prefixed ys (Ok zs) = Ok (ys ++ zs)
prefixed ys (Err e) = Err e

-- these are the results of the first elements
abbrev pub GatheredTo : {S T : Type 0} → (S → Result T Refusal) → List S → ℕ → List T → Type 0
GatheredTo f xs i ys = prefixed ys (gathered f (drop i xs)) ≡ gathered f xs

-- the refusal, if it is one
abbrev pub fault : {T : Type 0} → Result (List T) Refusal → Option Refusal
fault (Ok zs) = None
fault (Err e) = Some e

-- the first elements are at no fault
abbrev pub Faultless : {S T : Type 0} → (S → Result T Refusal) → List S → ℕ → Type 0
Faultless f xs i = fault (gathered f (drop i xs)) ≡ fault (gathered f xs)

-- the bytes of the results of the first elements are after the old bytes
abbrev pub PutTo : {S T : Type 0} → (T → List ℕ) → (T → Type 0) → (S → Result T Refusal) → List S → ℕ → List ℕ → List ℕ → Type 0
PutTo {S} {T} spelled fits f xs i old new = (ys : List T) × GatheredTo f xs i ys × (new ≡ old ++ flat_map spelled ys) × All fits ys

prefixed-first : {T : Type 0} (ys : List T) (y : T) (r : Result (List T) Refusal) → prefixed ys (first_and (Ok y) r) ≡ prefixed (ys ++ y ∷ []) r
prefixed-first ys y (Ok zs) = ap (λ l. Ok l) (sym (append_assoc ys (y ∷ []) zs))
prefixed-first ys y (Err e) = refl

pub gathered_more : {S T : Type 0} (f : S → Result T Refusal) (xs : List S) (i : ℕ) (ys : List T) (x : S) (y : T) → i < length xs → x ≡ get_or xs i x → f x ≡ Ok y → GatheredTo f xs i ys → GatheredTo f xs (i + 1) (ys ++ y ∷ [])
gathered_more {S} {T} f xs i ys x y h at gives before =
    let rest : Result (List T) Refusal = gathered f (drop (i + 1) xs) in
    let step : gathered f (drop i xs) ≡ first_and (Ok y) rest = at_drop_more (gathered f) xs i x h ∙ ap (λ (r : Result T Refusal). first_and r rest) (ap f (sym at) ∙ gives) in
    sym (prefixed-first ys y rest) ∙ ap (λ (r : Result (List T) Refusal). prefixed ys r) (sym step) ∙ before

-- one element more
pub put_more : {S T : Type 0} (spelled : T → List ℕ) (fits : T → Type 0) (f : S → Result T Refusal) (xs : List S) (i : ℕ) (old mid new : List ℕ) (x : S) (y : T) → PutTo spelled fits f xs i old mid → i < length xs → x ≡ get_or xs i x → f x ≡ Ok y → new ≡ mid ++ spelled y → fits y → PutTo spelled fits f xs (i + 1) old new
put_more spelled fits f xs i old mid new x y before h at gives added is =
    (before.0 ++ y ∷ [], gathered_more f xs i before.0 x y h at gives before.1, added ∙ ap (λ (l : List ℕ). l ++ spelled y) before.2 ∙ flat_map_more spelled old before.0 y, All-push fits before.0 y before.3 is)
