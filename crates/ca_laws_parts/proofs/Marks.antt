-- What a filter leaves of a list, and some of what a table holds, marked by their handles.
use Rattle.std.proofs.Common.{◌≡◌, ℕ, zero, suc, ◌⊎◌, inl, inr, Bool, true, false, ◌||◌, cond, List, [], ◌∷◌, refl, sym, ap, ◌∙◌, subst}
use Rattle.std.specs.Prelude.{filter}
use Rattle.std.proofs.lemmas.Bool.{both_ways, or_cases, or_left, or_right}
use Rattle.ca_text.specs.Place.{At}
use Rattle.ca_text.proofs.Places.{some_is}
use Rattle.ca_arena.specs.declared.handle.Handle.{Handle}
use Rattle.ca_ids.specs.Table.{same_handle}
use Rattle.ca_model.proofs.Handles.{same-is, same-itself}
use Rattle.ca_model.proofs.Tables.{AreApart}

-- ---- filters

-- what a filter leaves was there, and passes
pub at-filter : {A : Type 0} (p : A → Bool) (xs : List A) (i : ℕ) (x : A) → At (filter p xs) i x → (j : ℕ) × At xs j x × (p x ≡ true)
at-filter p [] i x at = absurd cc
at-filter {A} p (y ∷ xs) i x at = go (p y) refl i at (λ k h. at-filter p xs k x h)
  where
    go : (b : Bool) → p y ≡ b → (i : ℕ) → At (cond b (y ∷ filter p xs) (filter p xs)) i x → ((k : ℕ) → At (filter p xs) k x → (j : ℕ) × At xs j x × (p x ≡ true)) → (j : ℕ) × At (y ∷ xs) j x × (p x ≡ true)
    go true is zero h rest = (0, h, ap p (sym (some_is y x h)) ∙ is)
    go true is (suc i) h rest = (let r = rest i h in (suc r.0, r.1, r.2))
    go false is i h rest = (let r = rest i h in (suc r.0, r.1, r.2))

-- and what passes is left
pub filter-at : {A : Type 0} (p : A → Bool) (xs : List A) (j : ℕ) (x : A) → At xs j x → p x ≡ true → (i : ℕ) × At (filter p xs) i x
filter-at p [] j x at is = absurd cc
filter-at p (y ∷ xs) zero x at is = go (p y) refl
  where
    go : (b : Bool) → p y ≡ b → (i : ℕ) × At (cond b (y ∷ filter p xs) (filter p xs)) i x
    go true e = (0, at)
    go false e = absurd (both_ways (p y) e (ap p (some_is y x at) ∙ is))
filter-at p (y ∷ xs) (suc j) x at is = go (p y) (filter-at p xs j x at is)
  where
    go : (b : Bool) → (i : ℕ) × At (filter p xs) i x → (i : ℕ) × At (cond b (y ∷ filter p xs) (filter p xs)) i x
    go true r = (suc r.0, r.1)
    go false r = r

module _ {T : Type 0} where
  pub filter-apart : (p : Handle × T → Bool) (es : List (Handle × T)) → AreApart es → AreApart (filter p es)
  filter-apart p [] apart = tt
  filter-apart p (e ∷ es) apart = go (p e) (filter-apart p es apart.1)
    where
      go : (b : Bool) → AreApart (filter p es) → AreApart (cond b (e ∷ filter p es) (filter p es))
      go true rest = ((λ i f at same. (let was = at-filter p es i f at in apart.0 was.0 f was.1 same)), rest)
      go false rest = rest

  -- ---- marks

  -- what passes the test, or is one of these
  abbrev pub marked : (here : Handle → T → Bool) → List (Handle × T) → Handle → T → Bool
  marked here [] = here
  marked here (e ∷ es) = marked (λ (g : Handle) (v : T). here g v || same_handle g e.0) es

  pub marked-old : (here : Handle → T → Bool) (es : List (Handle × T)) (g : Handle) (v : T) → here g v ≡ true → marked here es g v ≡ true
  marked-old here [] g v is = is
  marked-old here (e ∷ es) g v is = marked-old (λ (g : Handle) (v : T). here g v || same_handle g e.0) es g v (or_left (here g v) (same_handle g e.0) is)

  pub marked-new : (here : Handle → T → Bool) (es : List (Handle × T)) (i : ℕ) (e : Handle × T) (g : Handle) (v : T) → At es i e → g ≡ e.0 → marked here es g v ≡ true
  marked-new here [] i e g v at same = absurd cc
  marked-new here (f ∷ es) zero e g v at same =
      marked-old (λ (g : Handle) (v : T). here g v || same_handle g f.0) es g v
      (or_right (here g v) (same_handle g f.0) (subst (λ (k : Handle). same_handle g k ≡ true) (same ∙ ap (λ (x : Handle × T). x.0) (sym (some_is f e at))) (same-itself g)))
  marked-new here (f ∷ es) (suc i) e g v at same = marked-new (λ (g : Handle) (v : T). here g v || same_handle g f.0) es i e g v at same

  pub marked-back : (here : Handle → T → Bool) (es : List (Handle × T)) (g : Handle) (v : T) → marked here es g v ≡ true → (here g v ≡ true) ⊎ ((i : ℕ) × (e : Handle × T) × At es i e × (g ≡ e.0))
  marked-back here [] g v is = inl is
  marked-back here (e ∷ es) g v is = elim (marked-back (λ (g : Handle) (v : T). here g v || same_handle g e.0) es g v is) [
    | inl was ↦ elim (or_cases (here g v) (same_handle g e.0) was) [
      | inl old ↦ inl old
      | inr same ↦ inr (0, e, refl, same-is g e.0 same)
    ]
    | inr later ↦ inr (suc later.0, later.1, later.2, later.3)
  ]
