-- A put that waits, with its step and without, and one that is dropped.
use Rattle.std.proofs.Common.{◌≡◌, ℕ, ◌<◌, inl, inr, List, [], ◌∷◌, refl, sym, ap, subst, arith}
use Rattle.std.specs.Prelude.{Bool, true, false, take}
use Rattle.ca_text.specs.Place.{At}
use Rattle.ca_model.specs.History.{Added, Ask, Circuit, Create, Entry, Intent, On, Sent, Step, Waits, Withdrawn}
use Rattle.ca_model.specs.Channels.{CameIn, IsDropped, before}
use Rattle.ca_model.specs.Causes.{Acted}
use Rattle.ca_model_examples.specs.Worlds.{AnyDue, created_told, creating, long, putting, step, temp}
use Rattle.ca_model_examples.specs.Parts.{BreaksOnly, Holds, IsSafeNow, Part}
use Rattle.ca_model_examples.specs.Parts as part
use Rattle.ca_model_examples.specs.Unsafe.{its_step, put_called, put_sent, put_waits, waits_and}
use Rattle.ca_model_examples.proofs.Lists.{each-at, one-at}
use Rattle.ca_model_examples.proofs.Quiet.{holds, is_removed, none, quiet, whole}
use Rattle.ca_model_examples.proofs.Shown.{answered-by, answered-each, came-each, caused-each, dropped-each, sent-each, taken-each}
use Rattle.ca_model_examples.proofs.Opened.{created-here, created-own, open-here, takes-cid}
use Rattle.ca_model_examples.proofs.Creations.{only-added}
use Rattle.ca_model_examples.proofs.Uses.{acts-by, two-only}

module _ (is_open : Bool) (more : List Entry) where
  -- ---- with any steps

  module _ (steps : List Step) where
    caused : Holds AnyDue part.Caused (put_waits is_open steps more)
    caused = caused-each (put_sent is_open steps) put_called (waits_and more) refl refl ((tt, (step 0 1 1, refl, omega arith)), tt)

    own : Holds AnyDue part.Own (put_waits is_open steps more)
    own = taken-each (put_sent is_open steps) put_called (waits_and more) refl refl ((created-own (put_sent is_open steps) 0 (takes-cid (put_sent is_open steps) 0 0 creating refl refl refl (omega arith) refl)), tt)

    sent : Holds AnyDue part.SentOnce (put_waits is_open steps more)
    sent = sent-each (put_sent is_open steps) put_called (waits_and more) refl refl (tt, ((λ asks. (0, 1, (put_sent is_open steps, refl, refl, (putting 0 8 22, refl, refl)))), tt))

  -- ---- with the step of the put

  acted : Acted (put_sent is_open its_step) (waits_and more) 1 0
  acted = (putting 0 8 22, step 1 1 2, 0, 0, refl, refl, open-here (before (put_sent is_open its_step) 1 (step 1 1 2)) (take 1 (waits_and more)) (created-here (before (put_sent is_open its_step) 1 (step 1 1 2)) (take 1 (waits_and more)) refl refl refl refl (only-added (Added 0 temp ∷ []) 0 refl)) refl refl)

  acts : Holds AnyDue part.Acts (put_waits is_open its_step more)
  acts = holds AnyDue part.Acts (put_sent is_open its_step) put_called (waits_and more) refl refl (λ k channel ask early meant other. acts-by (put_sent is_open its_step) (putting 0 8 22) put_called (waits_and more) refl refl acted (temp, (0, refl), (0, refl)) k channel ask meant other) tt tt

  answered : Holds AnyDue part.Answered (put_waits is_open its_step more)
  answered =
      answered-each (put_sent is_open its_step) put_called (waits_and more) refl refl (
        (answered-by (put_sent is_open its_step) (waits_and more) 0 (step 0 1 1) creating (created_told.message ∷ []) [] refl (refl, tt) tt refl ((λ p e. omega arith), tt) ((λ l. absurd (omega (arith, l))), ((λ l. omega arith), tt))),
        (
          (answered-by (put_sent is_open its_step) (waits_and more) 1 (step 1 1 2) (putting 0 8 22) [] (Waits 0 1 0 (long 22) ∷ []) refl tt (refl, tt) refl ((λ p e. absurd (omega (arith, p))), tt) ((λ l. absurd (omega (arith, l))), ((λ l. absurd (omega (arith, l))), tt))),
          tt,
        ),
      )

  came : CameIn (put_waits is_open its_step more) 0 1 0 1
  came = (put_sent is_open its_step, refl, refl, (step 1 1 2, refl, omega arith, omega arith))

  -- ---- without it

  unhandled-acts : Holds AnyDue part.Acts (put_waits is_open [] more)
  unhandled-acts =
      holds AnyDue part.Acts (put_sent is_open []) put_called (waits_and more) refl refl
      (λ k channel ask early meant other. absurd (each-at (λ (i : ℕ) (s : Sent). i < 1 → s.intent ≡ On channel ask → ⊥) (creating ∷ putting 0 8 22 ∷ []) ((λ first e. other (sym (ap ask-in e))), ((λ first e. omega (arith, first)), tt)) k meant.0 meant.1 early meant.2)) tt tt
    where
      ask-in : Intent → Ask
      ask-in (On channel ask) = ask
      ask-in i = Create

  unhandled-answered : Holds AnyDue part.Answered (put_waits is_open [] more)
  unhandled-answered =
      answered-each (put_sent is_open []) put_called (waits_and more) refl refl
      ((answered-by (put_sent is_open []) (waits_and more) 0 (step 0 1 1) creating (created_told.message ∷ []) [] refl (refl, tt) tt refl ((λ p e. omega arith), tt) ((λ l. absurd (omega (arith, l))), tt)), tt)

  not-come : CameIn (put_waits is_open [] more) 0 1 0 1 → ⊥
  not-come (c, on, joins, (h, at, from, to)) =
      let here : At (step 0 1 1 ∷ []) 1 h = subst (λ (z : Circuit). At z.handled 1 h) (one-at (put_sent is_open []) 0 c on).1 at in
      let e = (one-at (step 0 1 1) 1 h here).0 in
      omega (arith, e)

-- ---- a put that waits

waits-each : (p : Part) → Holds AnyDue p (put_waits true its_step [])
waits-each part.Acts = acts true []
waits-each part.Caused = caused true [] its_step
waits-each part.Own = own true [] its_step
waits-each part.Answered = answered true []
waits-each part.SentOnce = sent true [] its_step
waits-each part.CameToWait = came-each (put_sent true its_step) put_called (waits_and []) refl refl (tt, (came true [], tt))
waits-each p = quiet AnyDue p (put_sent true its_step) put_called (waits_and []) refl refl refl refl refl

pub waits-safe : IsSafeNow (put_waits true its_step [])
waits-safe = whole AnyDue _ waits-each

closed-each : (p : Part) → Holds AnyDue p (put_waits false its_step [])
closed-each part.Acts = acts false []
closed-each part.Caused = caused false [] its_step
closed-each part.Own = own false [] its_step
closed-each part.Answered = answered false []
closed-each part.SentOnce = sent false [] its_step
closed-each part.CameToWait = came-each (put_sent false its_step) put_called (waits_and []) refl refl (tt, (came false [], tt))
closed-each p = quiet AnyDue p (put_sent false its_step) put_called (waits_and []) refl refl refl refl refl

pub closed-safe : IsSafeNow (put_waits false its_step [])
closed-safe = whole AnyDue _ closed-each

-- ---- it waits without its step

open-rest : (p : Part) → (p ≡ part.CameToWait → ⊥) → Holds AnyDue p (put_waits true [] [])
open-rest part.CameToWait ne = absurd (ne refl)
open-rest part.Acts ne = unhandled-acts true []
open-rest part.Caused ne = caused true [] []
open-rest part.Own ne = own true [] []
open-rest part.Answered ne = unhandled-answered true []
open-rest part.SentOnce ne = sent true [] []
open-rest p ne = quiet AnyDue p (put_sent true []) put_called (waits_and []) refl refl refl refl refl

pub waits-unhandled : BreaksOnly part.CameToWait (put_waits true [] [])
waits-unhandled = (open-rest, λ h. not-come true [] (h.2 0 1 0 1 0 (long 22) (waits_and [], refl, refl)))

shut-rest : (p : Part) → (p ≡ part.CameToWait → ⊥) → Holds AnyDue p (put_waits false [] [])
shut-rest part.CameToWait ne = absurd (ne refl)
shut-rest part.Acts ne = unhandled-acts false []
shut-rest part.Caused ne = caused false [] []
shut-rest part.Own ne = own false [] []
shut-rest part.Answered ne = unhandled-answered false []
shut-rest part.SentOnce ne = sent false [] []
shut-rest p ne = quiet AnyDue p (put_sent false []) put_called (waits_and []) refl refl refl refl refl

pub closed-unhandled : BreaksOnly part.CameToWait (put_waits false [] [])
closed-unhandled = (shut-rest, λ h. not-come false [] (h.2 0 1 0 1 0 (long 22) (waits_and [], refl, refl)))

-- ---- it is dropped

abbrev drop : List Entry
drop = Withdrawn 0 1 ∷ []

dropped-as : IsDropped (put_waits false its_step drop) 0 1 0 2 (waits_and drop)
dropped-as = record { c = put_sent false its_step; on = (refl, refl); e = 1; r = 0; v = long 22; waited = (refl, omega arith); s = putting 0 8 22; at = refl; why = inr (inr refl) }

dropped-parts : (p : Part) → Holds AnyDue p (put_waits false its_step drop)
dropped-parts part.Acts = acts false drop
dropped-parts part.Caused = caused false drop its_step
dropped-parts part.Own = own false drop its_step
dropped-parts part.Answered = answered false drop
dropped-parts part.SentOnce = sent false drop its_step
dropped-parts part.CameToWait = came-each (put_sent false its_step) put_called (waits_and drop) refl refl (tt, (came false drop, (tt, tt)))
dropped-parts part.Dropped = dropped-each (put_sent false its_step) put_called (waits_and drop) refl refl (tt, (tt, (dropped-as, tt)))
dropped-parts p = quiet AnyDue p (put_sent false its_step) put_called (waits_and drop) refl refl refl refl refl

pub dropped-safe : IsSafeNow (put_waits false its_step drop)
dropped-safe = whole AnyDue _ dropped-parts

drop-rest : (p : Part) → (p ≡ part.Dropped → ⊥) → Holds AnyDue p (put_waits true its_step drop)
drop-rest part.Dropped ne = absurd (ne refl)
drop-rest part.Acts ne = acts true drop
drop-rest part.Caused ne = caused true drop its_step
drop-rest part.Own ne = own true drop its_step
drop-rest part.Answered ne = answered true drop
drop-rest part.SentOnce ne = sent true drop its_step
drop-rest part.CameToWait ne = came-each (put_sent true its_step) put_called (waits_and drop) refl refl (tt, (came true drop, (tt, tt)))
drop-rest p ne = quiet AnyDue p (put_sent true its_step) put_called (waits_and drop) refl refl refl refl refl

not-dropped : IsDropped (put_waits true its_step drop) 0 1 0 2 (waits_and drop) → ⊥
not-dropped d =
    let is : put_sent true its_step ≡ d.c = sym (one-at (put_sent true its_step) 0 d.c d.on.0).1 in
    elim d.why [
      | inl gone ↦ none is_removed (Added 0 temp ∷ Waits 0 1 0 (long 22) ∷ []) refl gone.0 _ gone.1 refl
      | inr other ↦ elim other [
        | inl cleared ↦ two-only creating (putting 0 8 22) cleared.0 cleared.1 cleared.3 (subst (λ (z : Circuit). At z.up cleared.0 cleared.1) (sym is) cleared.4)
        | inr shut ↦ (let t : true ≡ false = subst (λ (z : Circuit). z.server_open ≡ false) (sym is) shut in cc)
      ]
    ]

pub dropped-for-nothing : BreaksOnly part.Dropped (put_waits true its_step drop)
dropped-for-nothing = (drop-rest, λ h. not-dropped (h.2 0 1 0 2 _ refl refl))
