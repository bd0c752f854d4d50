-- Why a call on a channel is refused, once it is known where the channel is.
use Rattle.std.proofs.Common.{◌≡◌, ◌≢◌, ◌∙◌, ◌++◌, Bool, true, false, List, [], ◌∷◌, Option, Some, None, Result, Ok, Err, IsErrAnd, ap, refl, sym}
use Rattle.std.specs.List.{AllByRecursion}
use Rattle.ca_text.proofs.Places.{some_is}
use Rattle.ca_text.specs.declared.refusal.Refusal.{Refusal}
use Rattle.ca_text.specs.declared.refusal.Refusal.TheVariants as refusal
use Rattle.ca_model.specs.Client.{On, Searching, Standing}
use Rattle.ca_model.specs.Client as phase
use Rattle.ca_model.specs.ClientCalls.{LiveChannel, fault_at, first_refusal}
use Rattle.ca_client_core.specs.Calls.{live_in}

-- ---- where the channel is

abbrev got : {A E : Type 0} → A → Result A E → A
got a (Ok b) = b
got a (Err e) = a

ok_is : {A E : Type 0} (a b : A) → ◌≡◌ {A = Result A E} (Ok a) (Ok b) → a ≡ b
ok_is a b is = ap (got a) is

abbrev refused_in : {A E : Type 0} → Result A E → Option E
refused_in (Ok a) = None
refused_in (Err e) = Some e

pub live-at : (s : Option Standing) (l : LiveChannel) → live_in s ≡ Ok l → s ≡ Some (On l.circuit (phase.Live l.native l.rights))
live-at None l is = absurd cc
live-at (Some Searching) l is = absurd cc
live-at (Some (On c phase.Connecting)) l is = absurd cc
live-at (Some (On c (phase.Creating r))) l is = absurd cc
live-at (Some (On c (phase.Live n r))) l is =
    ap (λ (k : LiveChannel). Some (On k.circuit (phase.Live k.native k.rights))) (ok_is (record { circuit = c; native = n; rights = r }) l is)
live-at (Some (On c phase.Leaving)) l is = absurd cc
live-at (Some (On c phase.Clearing)) l is = absurd cc
live-at (Some (On c phase.Doomed)) l is = absurd cc

-- an error that is handed on
pub same-error : {A : Type 0} (r : Result A Refusal) (e : Refusal) → IsErrAnd r (λ x. x ≡ e) → r ≡ Err e
same-error (Ok x) e h = absurd h
same-error (Err x) e h = ap (λ (y : Refusal). Err y) h

-- the faults that a live channel has
abbrev pub Faults : Type 0
Faults = LiveChannel → List (Bool × Refusal)

pub fault-live : (faults : Faults) (s : Option Standing) (l : LiveChannel) → s ≡ Some (On l.circuit (phase.Live l.native l.rights)) → fault_at faults s ≡ first_refusal (faults l)
fault-live faults s l is = ap (fault_at faults) is

pub fault-none : (faults : Faults) (s : Option Standing) (e : Refusal) → live_in s ≡ Err e → fault_at faults s ≡ Some e
fault-none faults None e is = ap refused_in is
fault-none faults (Some Searching) e is = ap refused_in is
fault-none faults (Some (On c phase.Connecting)) e is = ap refused_in is
fault-none faults (Some (On c (phase.Creating r))) e is = ap refused_in is
fault-none faults (Some (On c (phase.Live n r))) e is = absurd cc
fault-none faults (Some (On c phase.Leaving)) e is = ap refused_in is
fault-none faults (Some (On c phase.Clearing)) e is = ap refused_in is
fault-none faults (Some (On c phase.Doomed)) e is = ap refused_in is

-- ---- the last of the faults

full-none : (fs : List (Bool × Refusal)) (e : Refusal) → first_refusal (fs ++ (false, e) ∷ []) ≡ None → first_refusal (fs ++ (true, e) ∷ []) ≡ Some e
full-none [] e is = refl
full-none ((true, r) ∷ fs) e is = absurd cc
full-none ((false, r) ∷ fs) e is = full-none fs e is

full-some : (fs : List (Bool × Refusal)) (e f : Refusal) (b : Bool) → first_refusal (fs ++ (false, e) ∷ []) ≡ Some f → first_refusal (fs ++ (b, e) ∷ []) ≡ Some f
full-some [] e f b is = absurd cc
full-some ((true, r) ∷ fs) e f b is = is
full-some ((false, r) ∷ fs) e f b is = full-some fs e f b is

-- these faults, and one more
abbrev pub and_then : Faults → Bool → Refusal → Faults
and_then faults b e = λ (l : LiveChannel). faults l ++ (b, e) ∷ []

pub last-fault : (faults : Faults) (e : Refusal) (s : Option Standing) (l : LiveChannel) → s ≡ Some (On l.circuit (phase.Live l.native l.rights)) → fault_at (and_then faults false e) s ≡ None → fault_at (and_then faults true e) s ≡ Some e
last-fault faults e s l live none =
    fault-live (and_then faults true e) s l live ∙ full-none (faults l) e (sym (fault-live (and_then faults false e) s l live) ∙ none)

pub earlier-fault : (faults : Faults) (e f : Refusal) (b : Bool) (s : Option Standing) → fault_at (and_then faults false e) s ≡ Some f → fault_at (and_then faults b e) s ≡ Some f
earlier-fault faults e f b None is = is
earlier-fault faults e f b (Some Searching) is = is
earlier-fault faults e f b (Some (On c phase.Connecting)) is = is
earlier-fault faults e f b (Some (On c (phase.Creating r))) is = is
earlier-fault faults e f b (Some (On c (phase.Live n r))) is =
    full-some (faults (record { circuit = c; native = n; rights = r })) e f b is
earlier-fault faults e f b (Some (On c phase.Leaving)) is = is
earlier-fault faults e f b (Some (On c phase.Clearing)) is = is
earlier-fault faults e f b (Some (On c phase.Doomed)) is = is

-- ---- none is that there is no memory

abbrev pub NotMemory : Bool × Refusal → Type 0
NotMemory f = f.1 ≢ refusal.OutOfMemory

no-memory : (fs : List (Bool × Refusal)) → AllByRecursion NotMemory fs → first_refusal fs ≡ Some refusal.OutOfMemory → ⊥
no-memory [] all is = absurd cc
no-memory ((true, r) ∷ fs) all is = all.0 (some_is r refusal.OutOfMemory is)
no-memory ((false, r) ∷ fs) all is = no-memory fs all.1 is

pub fault-memory : (faults : Faults) (s : Option Standing) → ((l : LiveChannel) → AllByRecursion NotMemory (faults l)) → fault_at faults s ≡ Some refusal.OutOfMemory → ⊥
fault-memory faults None all is = absurd cc
fault-memory faults (Some Searching) all is = absurd cc
fault-memory faults (Some (On c phase.Connecting)) all is = absurd cc
fault-memory faults (Some (On c (phase.Creating r))) all is = absurd cc
fault-memory faults (Some (On c (phase.Live n r))) all is =
    no-memory (faults (record { circuit = c; native = n; rights = r })) (all (record { circuit = c; native = n; rights = r })) is
fault-memory faults (Some (On c phase.Leaving)) all is = absurd cc
fault-memory faults (Some (On c phase.Clearing)) all is = absurd cc
fault-memory faults (Some (On c phase.Doomed)) all is = absurd cc
