-- Places of lists that grow, and when messages were read.
use Rattle.std.proofs.Common.{◌≡◌, ℕ, zero, suc, ◌<◌, ◌≤◌, inl, inr, List, [], ◌∷◌, ◌++◌, length, None, Option, refl, sym, ap, ◌∙◌, arith}
use Rattle.std.specs.Prelude.{option_map, slice_get, unwrap_or}
use Rattle.ca_text.specs.Place.{At}
use Rattle.ca_text.proofs.Places.{At-append, At-back, At-or, At-snoc, At-within}
use Rattle.ca_model.specs.History.{Circuit, Step}
use Rattle.ca_model.specs.Channels.{until}
use Rattle.ca_laws_parts.specs.Flows.{with_heard}

pub nothing-past : {A : Type 0} (xs : List A) (j : ℕ) → length xs ≤ j → slice_get xs j ≡ None
nothing-past [] j le = refl
nothing-past (x ∷ xs) zero le = absurd (omega (arith, le))
nothing-past (x ∷ xs) (suc j) le = nothing-past xs j (omega (arith, le))

-- what is in a list that grew by one, at a place before the end
pub At-old : {A : Type 0} (xs : List A) (x y : A) (k : ℕ) → At (xs ++ y ∷ []) k x → k < length xs → At xs k x
At-old xs x y k at lt = At-back xs (y ∷ []) k x at lt

pub until-read : (c : Circuit) (j : ℕ) (h : Step) → At c.heard j h → until c j ≡ h.sent
until-read c j h at = ap (λ (o : Option Step). unwrap_or (option_map (λ (g : Step). g.sent) o) (length c.up)) at

pub until-unread : (c : Circuit) (j : ℕ) → length c.heard ≤ j → until c j ≡ length c.up
until-unread c j late =
    ap (λ (o : Option Step). unwrap_or (option_map (λ (g : Step). g.sent) o) (length c.up)) (nothing-past c.heard j late)

-- before a message was read the moment of reading it is now
pub until-heard : (c : Circuit) (h : Step) (j : ℕ) → h.sent ≡ length c.up → until (with_heard h c) j ≡ until c j
until-heard c h j now =
    elim (At-or c.heard j) [
      | inl old ↦
          until-read (with_heard h c) j old.0 (At-append c.heard (h ∷ []) j old.0 old.1) ∙ sym (until-read c j old.0 old.1)
      | inr late ↦ elim (At-or (c.heard ++ h ∷ []) j) [
        | inl new ↦ elim (At-snoc c.heard h j new.0 new.1) [
          | inl old ↦ absurd (omega (arith, late, At-within c.heard j new.0 old))
          | inr is ↦
              until-read (with_heard h c) j new.0 new.1 ∙ ap (λ (g : Step). g.sent) is.1 ∙ now ∙ sym (until-unread c j late)
        ]
        | inr past ↦ until-unread (with_heard h c) j past ∙ sym (until-unread c j late)
      ]
    ]
