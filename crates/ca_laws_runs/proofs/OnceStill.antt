-- The events of a server leave the clients and their logs.
use Rattle.std.proofs.Common.{ℕ, inl, inr, Bool, List, Option, Some, None, refl, sym, subst}
use Rattle.std.specs.Prelude.{option_map, slice_get, unwrap_or}
use Rattle.ca_arena.specs.declared.handle.Handle.{Handle}
use Rattle.ca_dbr.specs.Elements.{Elements}
use Rattle.ca_records.specs.Record.{RecordState}
use Rattle.ca_model.specs.Due.{Action}
use Rattle.ca_model.specs.Ends as why
use Rattle.ca_model.specs.ServerSteps.{Closed, Handled, NeedBytes, OutputFull, Stepped}
use Rattle.ca_model.specs.ServerEvents.{HappensAdd, HappensCutServer, HappensFinish, HappensPost, HappensPump, HappensRemove, HappensServerRestart, HappensServerStep, ServerStepped, unsaid}
use Rattle.ca_model.specs.World.{Joined, ServerSide, World, with_circuit}
use Rattle.ca_laws_runs.proofs.OnceNoticed.{Still}

-- a circuit changes where it is
still-at : (w : World) (k : ℕ) (f : Joined → Joined) → Still w (unwrap_or (option_map (λ (c : Joined). with_circuit k (f c) w) (slice_get w.circuits k)) w)
still-at w k f = go (slice_get w.circuits k)
  where
    go : (o : Option Joined) → Still w (unwrap_or (option_map (λ (c : Joined). with_circuit k (f c) w) o) w)
    go None = (refl, refl)
    go (Some c) = (refl, refl)

module _ (w new : World) (k : ℕ) (j : Joined) (y : ServerSide) where
  still-unsaid : (action : Action) (o : Option (Handle → Bool)) → Still w (unsaid k j y action o w)
  still-unsaid action None = (refl, refl)
  still-unsaid action (Some gone) = (refl, refl)

  still-stepped : (did : Stepped) → ServerStepped w k j y did new → Still w new
  still-stepped Handled steps = subst (λ (v : World). Still w v) (sym steps.leaves) (still-at _ k _)
  still-stepped NeedBytes steps = subst (λ (v : World). Still w v) (sym steps.3) (refl, refl)
  still-stepped OutputFull steps = subst (λ (v : World). Still w v) (sym steps.3) (refl, refl)
  still-stepped (Closed why.OutOfMemory left) steps = subst (λ (v : World). Still w v) (sym steps.leaves) (still-unsaid steps.lacks.next.action steps.lacks.written)
  still-stepped (Closed cause left) steps = subst (λ (v : World). Still w v) (sym steps.3) (refl, refl)

  pub still-server-step : HappensServerStep w k j y new → Still w new
  still-server-step happens = still-stepped happens.0 happens.1

  pub still-pump : HappensPump w k j y new → Still w new
  still-pump happens = subst (λ (v : World). Still w v) (sym happens.leaves) (refl, refl)

  pub still-cut-server : HappensCutServer w k j y new → Still w new
  still-cut-server happens = subst (λ (v : World). Still w v) (sym happens.leaves) (refl, refl)

module _ (w new : World) (i : ℕ) (y : ServerSide) where
  pub still-post : (name : List ℕ) (e : Elements) (mask : ℕ) → HappensPost w i y name e mask new → Still w new
  still-post name e mask happens = elim happens.2 [
    | inr refusal ↦ subst (λ (v : World). Still w v) (sym refusal.3) (refl, refl)
    | inl did ↦ subst (λ (v : World). Still w v) (sym did.1) (refl, refl)
  ]

  pub still-finish : (name : List ℕ) → HappensFinish w i y name new → Still w new
  still-finish name happens = elim happens [
    | inr refusal ↦ subst (λ (v : World). Still w v) (sym refusal.2) (refl, refl)
    | inl did ↦ subst (λ (v : World). Still w v) (sym did.leaves) (still-at _ did.p.circuit _)
  ]

  pub still-remove : (name : List ℕ) → HappensRemove w i y name new → Still w new
  still-remove name happens = elim happens.3 [
    | inr refusal ↦ subst (λ (v : World). Still w v) (sym refusal.1) (refl, refl)
    | inl did ↦ subst (λ (v : World). Still w v) (sym did.1) (refl, refl)
  ]

  pub still-add : (r : RecordState) → HappensAdd w i y r new → Still w new
  still-add r happens = elim happens.2 [
    | inr refusal ↦ subst (λ (v : World). Still w v) (sym refusal.3) (refl, refl)
    | inl did ↦ subst (λ (v : World). Still w v) (sym did.1) (refl, refl)
  ]

  pub still-server-restart : HappensServerRestart w i y new → Still w new
  still-server-restart happens = subst (λ (v : World). Still w v) (sym happens) (refl, refl)
