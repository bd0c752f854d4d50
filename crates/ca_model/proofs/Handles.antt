-- When two handles are one.
use Rattle.std.proofs.Common.{◌≡◌, ◌⊎◌, inl, inr, true, false, eqb, refl, subst}
use Rattle.std.proofs.lemmas.Bool.{and_from, and_parts, both_ways, cases_Bool, eq-eqb, eqb-true}
use Rattle.ca_arena.specs.declared.handle.Handle.{Handle}
use Rattle.ca_ids.specs.Table.{same_handle}
use Rattle.ca_model.proofs.Tables.{handle-is}

pub same-itself : (h : Handle) → same_handle h h ≡ true
same-itself h = and_from (eqb h.index h.index) (eqb h.generation h.generation) (eq-eqb h.index h.index refl) (eq-eqb h.generation h.generation refl)

pub same-is : (g h : Handle) → same_handle g h ≡ true → g ≡ h
same-is g h is =
    let parts = and_parts (eqb g.index h.index) (eqb g.generation h.generation) is in
    handle-is g h (eqb-true g.index h.index parts.0) (eqb-true g.generation h.generation parts.1)

pub handle-or : (g h : Handle) → (g ≡ h) ⊎ (g ≡ h → ⊥)
handle-or g h = elim (cases_Bool (same_handle g h)) [
  | inl is ↦ inl (same-is g h is)
  | inr other ↦ inr (λ e. both_ways (same_handle g h) other (subst (λ (x : Handle). same_handle g x ≡ true) e (same-itself g)))
]

-- and when they differ
pub same-not : (g h : Handle) → (g ≡ h → ⊥) → same_handle g h ≡ false
same-not g h other = elim (cases_Bool (same_handle g h)) [
  | inl is ↦ absurd (other (same-is g h is))
  | inr is ↦ is
]

pub not-same : (g h : Handle) → same_handle g h ≡ false → g ≡ h → ⊥
not-same g h other e = both_ways (same_handle g h) other (subst (λ (x : Handle). same_handle g x ≡ true) e (same-itself g))
