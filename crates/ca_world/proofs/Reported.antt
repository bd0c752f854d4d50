-- Between events each end of a server that ended was reported: its core keeps none.
use Rattle.std.proofs.Common.{◌≡◌, ℕ, ◌==◌, inl, inr, Bool, true, false, List, [], ◌∷◌, ◌++◌, length, Option, Some, None, Ok, Err, refl, sym, subst}
use Rattle.std.specs.Prelude.{Result, if◌then◌else◌, is_some, option_map, slice_set}
use Rattle.ca_arena.specs.declared.handle.Handle.{Handle}
use Rattle.ca_arena.specs.Arena.{Place}
use Rattle.ca_ids.specs.Table.{Table, kept_of, under, with_changed, with_held}
use Rattle.ca_text.proofs.Places.{At-mapped, At-set, At-snoc}
use Rattle.ca_text.specs.declared.refusal.Refusal.{Refusal}
use Rattle.ca_model.specs.Server.{Ended, Open, Server, ServerCircuit, ServerEnd}
use Rattle.ca_model.specs.ServerSteps.{Accepts, Gives, Sends}
use Rattle.ca_model.specs.ServerEvents.{left_by, reported}
use Rattle.ca_world.specs.Reported.{HasReported, IsReportedTable}

-- ---- tables

changed-none : (f : ServerEnd) (o : Option ServerCircuit) → left_by (option_map (λ (c : ServerCircuit). Open f) o) ≡ None
changed-none f None = refl
changed-none f (Some c) = refl

-- an end is open, and another is as it is
pub reported-changed : (t : Table ServerCircuit) (h : Handle) (e : ServerEnd) → IsReportedTable t → IsReportedTable (with_changed (λ (c : ServerCircuit). Open e) h t)
reported-changed t h e all = go (is_some (under t h))
  where
    go : (b : Bool) → IsReportedTable (if b then slice_set t h.index (record { generation = h.generation; value = option_map (λ (c : ServerCircuit). Open e) (under t h) }) else t)
    go true n p at = elim (At-set t h.index _ n p at) [
      | inl here ↦ subst (λ (z : Place ServerCircuit). left_by z.value ≡ None) (sym here.1) (changed-none e (under t h))
      | inr old ↦ all n p old.0
    ]
    go false n p at = all n p at

reported-held : (t : Table ServerCircuit) (h : Handle) (e : ServerEnd) → IsReportedTable t → IsReportedTable (with_held h (Open e) t)
reported-held t h e all = go (h.index == length t)
  where
    go : (b : Bool) → IsReportedTable (let p : Place ServerCircuit = record { generation = h.generation; value = Some (Open e) } in if b then t ++ p ∷ [] else slice_set t h.index p)
    go true n p at = elim (At-snoc t _ n p at) [
      | inl old ↦ all n p old
      | inr last ↦ subst (λ (z : Place ServerCircuit). left_by z.value ≡ None) (sym last.1) refl
    ]
    go false n p at = elim (At-set t h.index _ n p at) [
      | inl here ↦ subst (λ (z : Place ServerCircuit). left_by z.value ≡ None) (sym here.1) refl
      | inr old ↦ all n p old.0
    ]

kept-none : (o : Option ServerCircuit) → left_by (kept_of (λ (c : ServerCircuit). is_some (left_by (Some c))) o) ≡ None
kept-none None = refl
kept-none (Some (Open e)) = refl
kept-none (Some (Ended w left)) = refl

-- what is reported is reported
pub reported-all : (core : Server) → HasReported (reported core)
reported-all core n p at =
    let d = At-mapped (λ (p : Place ServerCircuit). record p { value = kept_of (λ (c : ServerCircuit). is_some (left_by (Some c))) p.value }) core.circuits n p at in
    subst (λ (z : Place ServerCircuit). left_by z.value ≡ None) (sym d.2) (kept-none d.0.value)

-- ---- servers

pub gives-reported : (y new : Server) (h : Handle) (bytes : List ℕ) → HasReported y → Gives y h bytes (Ok tt) new → HasReported new
gives-reported y new h bytes all does = subst HasReported (sym does.2) (reported-changed y.circuits h _ all)

pub sends-reported : (y new : Server) (h : Handle) (n : ℕ) → HasReported y → Sends y h n new → HasReported new
sends-reported y new h n all (inl does) = subst HasReported (sym does.3) (reported-changed y.circuits h _ all)
sends-reported y new h n all (inr none) = subst HasReported (sym none.2) all

pub accepts-reported : (y new : Server) (r : Result Handle Refusal) (g : Handle) → HasReported y → r ≡ Ok g → Accepts y r new → HasReported new
accepts-reported y new (Ok f) g all is does = subst HasReported (sym does.1) (reported-held y.circuits f _ all)
accepts-reported y new (Err e) g all is does = absurd cc
