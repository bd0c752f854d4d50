-- Runs of events, where they end, and what is promised there.
use Rattle.std.proofs.Common.{◌≡◌, ℕ, zero, suc, ◌+◌, ◌≤◌, List, [], ◌∷◌, ◌++◌, Option, Some, None, Err, length, take, refl, sym, ap, subst, arith}
use Rattle.std.specs.Prelude.{slice_get}
use Rattle.std.specs.List.{FoldsTo}
use Rattle.ca_text.specs.declared.refusal.Refusal.{Refusal}
use Rattle.ca_text.specs.declared.refusal.Refusal.TheVariants.{BadEvent, OutOfMemory}
use Rattle.ca_text.specs.Place.{At}
use Rattle.ca_text.proofs.Places.{At-within, some_is}
use Rattle.ca_events.specs.Events.{moment_of}
use Rattle.ca_model.specs.Worlds.{IsLegalWorld, IsSafeWorld}
use Rattle.ca_model.specs.Events.{Event, Tick}
use Rattle.ca_model.specs.Runs.{Happens}
use Rattle.ca_model.specs.World.{Setting, World, opening}
use Rattle.ca_laws_parts.specs.Worlds.{AllStream}
use Rattle.ca_laws_parts.proofs.BytesRuns.{runs-stand}
use Rattle.ca_laws_runs.proofs.Promised.{promised}
use Rattle.ca_laws_runs.proofs.Joint.{folds-snoc}
use Rattle.ca_world.specs.declared.step.AfterEvent.TheVariants.{Stopped}
use Rattle.ca_world_data.specs.Does.{Does, MayLack}
use Rattle.ca_world.specs.Halted.{HasStopped}
use Rattle.ca_world.specs.Running.{EndsBefore, HasRun}
use Rattle.ca_world.specs.Stepping.{Steps}
use Rattle.ca_world.specs.Whole.{CameAbout}

-- ---- what is promised

pub came-promised : (w : World) → CameAbout w → IsSafeWorld w × IsLegalWorld w
came-promised w (s, es, ok, are, folds) = (let p = promised s es None w ok are (w, folds, refl) in (p.0, p.1))

pub stopped-promised : (w : World) → HasStopped w → IsSafeWorld w × IsLegalWorld w
stopped-promised w (s, es, stopped, ok, are, runs) = (let p = promised s es stopped w ok are runs in (p.0, p.1))

-- the bytes on its circuits are messages
pub stopped-streams : (w : World) → HasStopped w → AllStream w
stopped-streams w (s, es, stopped, ok, are, runs) = (runs-stand s es stopped w ok runs).streams

-- ---- one event more

take-next : {A : Type 0} (xs : List A) (i : ℕ) (x : A) → At xs i x → take (i + 1) xs ≡ take i xs ++ x ∷ []
take-next [] i x at = absurd cc
take-next (z ∷ xs) zero x at = ap (λ (v : _). v ∷ []) (some_is z x at)
take-next (z ∷ xs) (suc i) x at = (let e : suc i + 1 ≡ suc (i + 1) = omega arith in rw e (ap (λ (t : List _). z ∷ t) (take-next xs i x at)))

pub ran-next : (s : Setting) (es : List Event) (n : ℕ) (w new : World) (e : Event) → At es n e → FoldsTo Happens (opening s) (take n es) w → Happens w e new → FoldsTo Happens (opening s) (take (n + 1) es) new
ran-next s es n w new e at folds happens =
    subst (λ (xs : List Event). FoldsTo Happens (opening s) xs new) (sym (take-next es n e at)) (folds-snoc (take n es) (opening s) w new e folds happens)

-- ---- moments

pub moment-is : (e : Event) (moment : ℕ) → moment_of e ≡ Some moment → e ≡ Tick moment
moment-is (Tick n) moment is = ap Tick (some_is n moment is)
moment-is e moment is = absurd cc

-- ---- where a run ends

-- it lacked memory, and left nothing
lacks-so : (before : World) (e : Event) (w : World) → MayLack before e × (w ≡ before) → EndsBefore before (Some e) (Some OutOfMemory) w
lacks-so before (Tick moment) w d = absurd d.0
lacks-so before e w d = d

-- or the beginning of a moment
stops-within : (before : World) (e : Event) (w : World) → Steps before e (Stopped w) → EndsBefore before (Some e) (Some OutOfMemory) w
stops-within before (Tick moment) w d = d
stops-within before e w d = absurd d

-- what holds in each world
abbrev pub Holds : World → Type 0
Holds w = IsSafeWorld w × IsLegalWorld w × AllStream w

-- all that holds there
run-at : (s : Setting) (es : List Event) (n : ℕ) (next : Option Event) (refusal : Option Refusal) (before w : World) → n ≤ length es → slice_get es n ≡ next → FoldsTo Happens (opening s) (take n es) before → EndsBefore before next refusal w → Holds w → HasRun s es n refusal w
run-at s es n next refusal before w within is folds why holds = record {
  within = within;
  before = before;
  runs = (before, folds, refl);
  why = subst (λ (o : Option Event). EndsBefore before o refusal w) (sym is) why;
  safe = holds.0;
  legal = holds.1;
  bytes = holds.2;
}

past-end : {A : Type 0} (xs : List A) → slice_get xs (length xs) ≡ None
past-end [] = refl
past-end (x ∷ xs) = past-end xs

-- after the last event
pub run-all : (s : Setting) (es : List Event) (n : ℕ) (w : World) → n ≡ length es → FoldsTo Happens (opening s) (take n es) w → Holds w → HasRun s es n None w
run-all s es n w is folds holds =
    run-at s es n None None w w (omega (arith, is)) (subst (λ (k : ℕ). slice_get es k ≡ None) (sym is) (past-end es)) folds refl holds

-- before one that was refused
pub run-refused : (s : Setting) (es : List Event) (n : ℕ) (mid : World) (e : Event) (r : Refusal) (w : World) → At es n e → FoldsTo Happens (opening s) (take n es) mid → Does mid e (Err r) w → Holds w → HasRun s es n (Some r) w
run-refused s es n mid e OutOfMemory w at folds d holds =
    let within = At-within es n e at in
    run-at s es n (Some e) (Some OutOfMemory) mid w (omega (arith, within)) at folds (lacks-so mid e w d) holds
run-refused s es n mid e BadEvent w at folds d holds =
    let within = At-within es n e at in
    run-at s es n (Some e) (Some BadEvent) mid w (omega (arith, within)) at folds d holds
run-refused s es n mid e _ w at folds d holds = absurd d

-- within a moment
pub run-stopped : (s : Setting) (es : List Event) (n : ℕ) (mid : World) (e : Event) (w : World) → At es n e → FoldsTo Happens (opening s) (take n es) mid → Steps mid e (Stopped w) → Holds w → HasRun s es n (Some OutOfMemory) w
run-stopped s es n mid e w at folds d holds =
    let within = At-within es n e at in
    run-at s es n (Some e) (Some OutOfMemory) mid w (omega (arith, within)) at folds (stops-within mid e w d) holds

-- as it is handed out
pub run-as : (s : Setting) (es : List Event) (n n' : ℕ) (o o' : Option Refusal) (w w' : World) → n' ≡ n → o' ≡ o → w' ≡ w → (Holds w → HasRun s es n o w) → IsSafeWorld w' → IsLegalWorld w' → AllStream w' → HasRun s es n' o' w'
run-as s es n n' o o' w w' is_n is_o is_w has safe legal bytes =
    subst (λ (z : ℕ × (Option Refusal × World)). HasRun s es z.0 z.1.0 z.1.1) (λ t. (sym is_n t, (sym is_o t, sym is_w t)))
    (has (subst (λ (v : World). IsSafeWorld v) is_w safe, subst (λ (v : World). IsLegalWorld v) is_w legal, subst (λ (v : World). AllStream v) is_w bytes))
