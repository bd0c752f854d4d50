-- The steps in rows of calls are those of the statement.
use Rattle.std.proofs.Common.{◌≡◌, ℕ, List, [], Option, Some, None, refl, sym, subst}
use Rattle.ca_arena.specs.declared.handle.Handle.{Handle}
use Rattle.ca_ids.specs.Table.{under}
use Rattle.ca_model.specs.Ends.{Why}
use Rattle.ca_model.specs.Ends as why
use Rattle.ca_model.specs.Server.{Ended, Open, Server, ServerCircuit}
use Rattle.ca_model.specs.ServerSteps.{Closed, Handled, NeedBytes, OutputFull, Stepped, Steps, StepsAt}
use Rattle.ca_laws_parts.specs.ServerRows.{Did, StepDoes, nothing}

pub step-does : (old : Server) (h : Handle) (answer : Stepped) (new : Server) → Steps old h answer new → (d : Did) × StepDoes old h answer d new
step-does old h NeedBytes new does = (nothing, (does, refl))
step-does old h OutputFull new does = (nothing, (does, refl))
step-does old h (Closed w left) new does = (nothing, (does, refl))
step-does old h Handled new does = go (under old.circuits h) refl does
  where
    not-closed : (w : Why) (left : List ℕ) → Handled ≡ Closed w left → ⊥
    not-closed w left is = cc

    go : (o : Option ServerCircuit) → under old.circuits h ≡ o → StepsAt old h o Handled new → (d : Did) × StepDoes old h Handled d new
    go (Some (Open e)) at s = (record { read = Some s.0.m; sent = s.0.replies }, (e, at, s.0, s.1, s.2, s.3, refl))
    go (Some (Ended w left)) at s = absurd (not-closed w left s.0)
    go None at s = absurd (not-closed why.Cut [] s.0)

pub does-step : (old : Server) (h : Handle) (answer : Stepped) (d : Did) (new : Server) → StepDoes old h answer d new → Steps old h answer new
does-step old h NeedBytes d new does = does.0
does-step old h OutputFull d new does = does.0
does-step old h (Closed w left) d new does = does.0
does-step old h Handled d new does = subst (λ (o : Option ServerCircuit). StepsAt old h o Handled new) (sym does.1) (does.2, does.3, does.4, does.5)
