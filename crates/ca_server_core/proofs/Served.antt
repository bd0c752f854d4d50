-- A message and its pump by one look-up of the circuit.
use Rattle.std.proofs.Common.{◌≡◌, ℕ, zero, suc, inl, inr, true, cond, List, [], ◌∷◌, Option, Some, None, is_some, slice_set, refl, sym, ap, ◌∙◌}
use Rattle.std.specs.Prelude.{option_map}
use Rattle.ca_arena.specs.declared.handle.Handle.{Handle}
use Rattle.ca_arena.specs.Arena.{Place}
use Rattle.ca_ids.specs.Table.{Table, under, with_changed}
use Rattle.ca_records.specs.Store.{Store, records_of}
use Rattle.ca_text.proofs.Places.{some_is}
use Rattle.ca_model.specs.Server.{Ended, Open, ServerCircuit, ServerEnd}
use Rattle.ca_model.specs.ServerSteps.{Rests}
use Rattle.ca_server_circuit.specs.declared.effect.Effect.{Effect}
use Rattle.ca_server_circuit.specs.declared.step.FollowUp.{FollowUp}
use Rattle.ca_server_circuit.specs.declared.step.FollowUp.TheVariants as effect
use Rattle.ca_server_circuit.specs.declared.step.EndStep.{EndStep}
use Rattle.ca_server_circuit.specs.declared.step.EndStep.TheVariants as step
use Rattle.ca_server_circuit.specs.Circuits.{CircuitIsSound}
use Rattle.ca_server_circuit.specs.Pumping.{PumpsAt}
use Rattle.ca_server_circuit.specs.Serving.{CircuitSteps}
use Rattle.ca_server_circuit.proofs.Tables.{changed-own}
use Rattle.ca_server_core.specs.Pumping.{IsIdleIn, PumpsIn, StepsAndPumps}
use Rattle.ca_server_core.specs.Serving.{is_quiet, is_still}
use Rattle.ca_server_core.specs.Sound.{IsSound}
use Rattle.ca_server_core.proofs.Moves.{changed-nothing}
use Rattle.ca_server_core.proofs.Stepped.{step-sound}

abbrev Circuits : Type 0
Circuits = Table ServerCircuit

-- ---- a circuit that is changed twice

set-set : {A : Type 0} (xs : List A) (i : ℕ) (x y : A) → slice_set (slice_set xs i x) i y ≡ slice_set xs i y
set-set [] i x y = refl
set-set (z ∷ xs) zero x y = refl
set-set (z ∷ xs) (suc i) x y = ap (λ ys. z ∷ ys) (set-set xs i x y)

changed-there : (t : Circuits) (h : Handle) (c d : ServerCircuit) → under t h ≡ Some c
    → with_changed (λ (x : ServerCircuit). d) h t ≡ (let p : Place ServerCircuit = record { generation = h.generation; value = Some d } in slice_set t h.index p)
changed-there t h c d is =
    ap (λ (o : Option ServerCircuit). let p : Place ServerCircuit = record { generation = h.generation; value = option_map (λ (x : ServerCircuit). d) o } in cond (is_some o) (slice_set t h.index p) t) is

pub changed-twice : (t : Circuits) (h : Handle) (c d u : ServerCircuit) → under t h ≡ Some c
    → with_changed (λ (x : ServerCircuit). u) h (with_changed (λ (x : ServerCircuit). d) h t) ≡ with_changed (λ (x : ServerCircuit). u) h t
changed-twice t h c d u is =
    let p : Place ServerCircuit = record { generation = h.generation; value = Some d } in
    let q : Place ServerCircuit = record { generation = h.generation; value = Some u } in
    changed-there (with_changed (λ (x : ServerCircuit). d) h t) h d u (changed-own (λ (x : ServerCircuit). d) t h c is)
    ∙ ap (λ (s : Circuits). slice_set s h.index q) (changed-there t h c d is)
    ∙ set-set t h.index p q
    ∙ sym (changed-there t h c u is)

-- ---- a step that leaves nothing to do

pub quiet-is : (did : FollowUp) → is_quiet did ≡ true → (said : Effect) × (did ≡ effect.Quiet said)
quiet-is (effect.Quiet said) is = (said, refl)
quiet-is (effect.Wrote place busies sid) is = absurd cc
quiet-is (effect.Began place sid sub) is = absurd cc
quiet-is (effect.Opened place sid) is = absurd cc

pub still-is : (did : Option EndStep) → is_still did ≡ true → (said : Effect) × (did ≡ Some (step.Handled (effect.Quiet said)))
still-is None is = absurd cc
still-is (Some (step.Handled did)) is = (let q = quiet-is did is in (q.0, ap (λ (x : FollowUp). Some (step.Handled x)) q.1))
still-is (Some step.NeedBytes) is = absurd cc
still-is (Some step.OutputFull) is = absurd cc
still-is (Some (step.Breaks cause)) is = absurd cc

-- a circuit that handled a message is sound
pub stepped-sound : (port : ℕ) (s u : Store) (t : Circuits) (h : Handle) (c new : ServerCircuit) (did : FollowUp) → under t h ≡ Some c → CircuitSteps port h c s (Some (step.Handled did)) new u → IsSound (records_of s) t
    → CircuitIsSound (records_of u) h new
stepped-sound port s u t h c new did there steps sound = by new (changed-own (λ (x : ServerCircuit). new) t h c there)
  where
    after : IsSound (records_of u) (with_changed (λ (x : ServerCircuit). new) h t)
    after = step-sound port s u t (with_changed (λ (x : ServerCircuit). new) h t) h did (inl (c, new, there, steps, refl)) sound

    by : (x : ServerCircuit) → under (with_changed (λ (z : ServerCircuit). new) h t) h ≡ Some x → CircuitIsSound (records_of u) h x
    by (Open e) at = after.ends h e at
    by (Ended w left) at = tt

-- it was changed twice
pub steps-and-pumps : (port : ℕ) (s v u : Store) (t : Circuits) (h : Handle) (c mid new : ServerCircuit) (said : Effect) → under t h ≡ Some c → CircuitSteps port h c s (Some (step.Handled (effect.Quiet said))) mid v → PumpsAt h mid v new u
    → StepsAndPumps port t h s (with_changed (λ (x : ServerCircuit). new) h t) u
steps-and-pumps port s v u t h c mid new said there steps pumps = (
  with_changed (λ (x : ServerCircuit). mid) h t,
  v,
  said,
  inl (c, mid, there, steps, refl),
  inl (mid, new, changed-own (λ (x : ServerCircuit). mid) t h c there, pumps, sym (changed-twice t h c mid new there)),
)

-- ---- an end that is idle

pub idle-changed : (t : Circuits) (h : Handle) (c new : ServerCircuit) → under t h ≡ Some c → ((e : ServerEnd) → new ≡ Open e → Rests e) → IsIdleIn (with_changed (λ (x : ServerCircuit). new) h t) h
idle-changed t h c new there rests e at = rests e (some_is new (Open e) (sym (changed-own (λ (x : ServerCircuit). new) t h c there) ∙ at))

-- a pump does nothing
pub idle-pumps : (s : Store) (t : Circuits) (h : Handle) → IsSound (records_of s) t → IsIdleIn t h → PumpsIn t h s t s
idle-pumps s t h sound idle = by (under t h) refl
  where
    by : (o : Option ServerCircuit) → under t h ≡ o → PumpsIn t h s t s
    by None none = inr (none, refl, refl)
    by (Some (Open e)) at = inl (Open e, Open e, at, ([], e, refl, inl (idle e at, refl, (sound.ends h e at).room, refl)), sym (changed-nothing t h (Open e) at))
    by (Some (Ended w left)) at = inl (Ended w left, Ended w left, at, (refl, refl), sym (changed-nothing t h (Ended w left) at))
