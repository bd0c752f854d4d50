-- Histories that break a part of what is said of writes.
use Rattle.std.proofs.Common.{◌≡◌, ℕ, ◌⊎◌, inl, inr, List, [], ◌∷◌, refl, sym, ap, subst, ◌∙◌, arith}
use Rattle.ca_text.proofs.Places.{some_is}
use Rattle.std.specs.Prelude.{Bool, true, false, take, pos, Ok}
use Rattle.ca_text.specs.Place.{At}
use Rattle.ca_dbr.specs.Elements.{Elements, longs}
use Rattle.ca_dbr.specs.Held.{kind_of}
use Rattle.ca_records.specs.Given.{given_as}
use Rattle.ca_dbr.specs.Conversion.{converted}
use Rattle.ca_dbr.specs.declared.value.Meta.{Meta}
use Rattle.ca_records.specs.Record.{RecordState}
use Rattle.ca_model.specs.Speech.{In, IsWritten, Stored}
use Rattle.ca_model.specs.History.{Request, Put, On, Circuit, Entry, Line, Added, Removed, Applied, Finished, Opened, Called, ToWrite}
use Rattle.ca_model.specs.Channels.{IsBusyUntil, IsHandledIn, HasWaited, IsOwnWrite, IsTaken}
use Rattle.ca_model_examples.specs.Worlds.{AnyDue, alarmed, long, putting, temp, temp_name, world}
use Rattle.ca_model_examples.specs.Parts.{Part, Holds, BreaksOnly, IsSafeNow, InCircuit, InLife, InWorld}
use Rattle.ca_model_examples.specs.Parts as part
use Rattle.ca_model_examples.specs.Unsafe.{finished, made_gone, made_23, made_alarmed, made_twice, made_once, closing, made, opened, put_called, put_closing, unhandled}
use Rattle.ca_model_examples.proofs.Lists.{each-at, none-at, one-at}
use Rattle.ca_model_examples.proofs.Quiet.{none, few-same, quiet, holds, whole, is_called, is_finished, is_removed}
use Rattle.ca_model_examples.proofs.Shown.{OwnAt, SentAt, finished-each, own-each, sent-each}
use Rattle.ca_model_examples.proofs.Names.{was-there}

put-sent : (c : Circuit) (x : List Line) (y : List Entry) → c.client ≡ 0 → At c.up 0 (putting 0 8 22) → SentAt (world (c ∷ []) x y) 1 (Called (On 0 (Request Put 0)) (ToWrite (longs (pos 22 ∷ []))))
put-sent c x y e at asks = (0, 0, (c, refl, e, (putting 0 8 22, at, refl)))

-- The put is the caller's own if its value is converted to this one, its record was there, and it was taken.
own-put : (c : Circuit) (x : List Line) (y : List Entry) (i : ℕ) (v : Stored) → c.client ≡ 0 → c.server ≡ 0 → At c.up 0 (putting 0 8 22) → At x 0 (Opened 0 temp_name) → At x 1 (Called (On 0 (Request Put 0)) (ToWrite (longs (pos 22 ∷ []))))
    → At (take i y) 0 (Added 0 temp) → (In (take i y) (Removed 0) → ⊥) → given_as (longs (pos 22 ∷ [])) (kind_of temp.value) ≡ Ok v.value
    → IsWritten v → IsTaken c 0 i ⊎ HasWaited 0 c y 0 i 0 → IsOwnWrite (world (c ∷ []) x y) 0 0 0 i 0 v
own-put c x y i v e f at opens calls there kept value written came = record {
  c = c;
  x = x;
  y = y;
  joins = ((refl, subst (λ (k : ℕ). At (x ∷ []) k x) (sym e) refl, subst (λ (k : ℕ). At (y ∷ []) k y) (sym f) refl), f);
  channel = 0;
  ask = Request Put 0;
  given = longs (pos 22 ∷ []);
  called = ((putting 0 8 22, at, refl), (1, calls));
  to = temp;
  there = ((0, opens), (0, there), kept);
  value = value;
  written = written;
  came = came;
}

-- what these histories store has no alarm
plain : (n : ℕ) → IsWritten (long n)
plain n = (record { seconds = 0; nanos = 0 }, refl)

-- the server's end closed on it
closed : (i : ℕ) → IsTaken closing 0 i
closed i = inr (refl, refl, λ l g at. absurd (none-at l g at))

made-own : (y : List Entry) (i : ℕ) → At (take i y) 0 (Added 0 temp) → (In (take i y) (Removed 0) → ⊥) → (b : Bool) → OwnAt (put_closing y) i (Applied 0 0 0 (long 22) b)
made-own y i there kept b = own-put closing put_called y i (long 22) refl refl refl refl refl there kept refl (plain 22) (inl (closed i))

closing-sent : (y : List Entry) → Holds AnyDue part.SentOnce (put_closing y)
closing-sent y = sent-each closing put_called y refl refl (tt, (put-sent closing put_called y refl refl, tt))

-- ---- once

kept-1 : In (Added 0 temp ∷ []) (Removed 0) → ⊥
kept-1 h = none is_removed (Added 0 temp ∷ []) refl h.0 _ h.1 refl

made-each : (p : Part) → Holds AnyDue p (put_closing made_once)
made-each part.SentOnce = closing-sent made_once
made-each part.OwnWrite = own-each closing put_called made_once refl refl (tt, (made-own made_once 1 refl kept-1 false, tt))
made-each p = quiet AnyDue p closing put_called made_once refl refl refl refl refl

pub made-safe : IsSafeNow (put_closing made_once)
made-safe = whole AnyDue _ made-each

kept-2 : In (Added 0 temp ∷ made ∷ []) (Removed 0) → ⊥
kept-2 h = none is_removed (Added 0 temp ∷ made ∷ []) refl h.0 _ h.1 refl

twice-rest : (p : Part) → (p ≡ part.AppliedOnce → ⊥) → Holds AnyDue p (put_closing made_twice)
twice-rest part.AppliedOnce ne = absurd (ne refl)
twice-rest part.SentOnce ne = closing-sent made_twice
twice-rest part.OwnWrite ne = own-each closing put_called made_twice refl refl (tt, (made-own made_twice 1 refl kept-1 false, (made-own made_twice 2 refl kept-2 false, tt)))
twice-rest p ne = quiet AnyDue p closing put_called made_twice refl refl refl refl refl

pub made-twice : BreaksOnly part.AppliedOnce (put_closing made_twice)
made-twice = (twice-rest, λ h. (let e = (h.2 0 0 0 0 1 2 0 0 (long 22) (long 22) (_, false, refl, refl) (_, false, refl, refl)).1 in omega (arith, e)))

-- ---- its own value, record and time

-- whose write it is, in a world of one circuit
module _ (c : Circuit) (x : List Line) (y : List Entry) (e : c.client ≡ 0) (f : c.server ≡ 0) (k i r : ℕ) (v : Stored) (o : IsOwnWrite (world (c ∷ []) x y) 0 k 0 i r v) where
  its-circuit : c ≡ o.c
  its-circuit = sym (one-at c 0 o.c o.joins.0.0).1

  its-lines : x ≡ o.x
  its-lines = some_is x o.x (subst (λ (n : ℕ). At (x ∷ []) n o.x) (ap (λ (d : Circuit). d.client) (sym its-circuit) ∙ e) o.joins.0.1)

  its-entries : y ≡ o.y
  its-entries = some_is y o.y (subst (λ (n : ℕ). At (y ∷ []) n o.y) (ap (λ (d : Circuit). d.server) (sym its-circuit) ∙ f) o.joins.0.2)

abbrev given-of : Line → Elements
given-of (Called intent (ToWrite e)) = e
given-of l = longs []

abbrev state-of : Entry → RecordState
state-of (Added r s) = s
state-of e = temp

value-rest : (p : Part) → (p ≡ part.OwnWrite → ⊥) → Holds AnyDue p (put_closing made_23)
value-rest part.OwnWrite ne = absurd (ne refl)
value-rest part.SentOnce ne = closing-sent made_23
value-rest p ne = quiet AnyDue p closing put_called made_23 refl refl refl refl refl

not-own-value : IsOwnWrite (put_closing made_23) 0 0 0 1 0 (long 23) → ⊥
not-own-value o =
    let call : At put_called o.called.1.0 (Called (On o.channel o.ask) (ToWrite o.given)) = subst (λ (l : List Line). At l o.called.1.0 (Called (On o.channel o.ask) (ToWrite o.given))) (sym (its-lines closing put_called made_23 refl refl 0 1 0 (long 23) o)) o.called.1.1 in
    let given : o.given ≡ longs (pos 22 ∷ []) = each-at (λ (i : ℕ) (l : Line). l ≡ Called (On o.channel o.ask) (ToWrite o.given) → o.given ≡ longs (pos 22 ∷ [])) put_called ((λ e. absurd cc), ((λ e. sym (ap given-of e)), tt)) o.called.1.0 _ call refl in
    let there : At (Added 0 temp ∷ []) o.there.1.0 (Added 0 o.to) = subst (λ (l : List Entry). At (take 1 l) o.there.1.0 (Added 0 o.to)) (sym (its-entries closing put_called made_23 refl refl 0 1 0 (long 23) o)) o.there.1.1 in
    let to : o.to ≡ temp = ap state-of (one-at (Added 0 temp) o.there.1.0 _ there).1 in
    let value : given_as (longs (pos 22 ∷ [])) (kind_of temp.value) ≡ Ok (long 23).value = subst (λ (a : Elements). given_as a (kind_of temp.value) ≡ Ok (long 23).value) given (subst (λ (a : RecordState). given_as o.given (kind_of a.value) ≡ Ok (long 23).value) to o.value) in
    cc

pub another-value : BreaksOnly part.OwnWrite (put_closing made_23)
another-value = (value-rest, λ h. not-own-value (h.2 0 0 0 1 0 (long 23) (_, false, refl, refl)))

alarmed-rest : (p : Part) → (p ≡ part.OwnWrite → ⊥) → Holds AnyDue p (put_closing made_alarmed)
alarmed-rest part.OwnWrite ne = absurd (ne refl)
alarmed-rest part.SentOnce ne = closing-sent made_alarmed
alarmed-rest p ne = quiet AnyDue p closing put_called made_alarmed refl refl refl refl refl

not-plain : IsOwnWrite (put_closing made_alarmed) 0 0 0 1 0 alarmed → ⊥
not-plain o = (let e : ◌≡◌ {A = ℕ} 3 0 = ap (λ (m : Meta). m.severity) o.written.1 in omega (arith, e))

pub with-an-alarm : BreaksOnly part.OwnWrite (put_closing made_alarmed)
with-an-alarm = (alarmed-rest, λ h. not-plain (h.2 0 0 0 1 0 alarmed (_, false, refl, refl)))

gone-rest : (p : Part) → (p ≡ part.OwnWrite → ⊥) → Holds AnyDue p (put_closing made_gone)
gone-rest part.OwnWrite ne = absurd (ne refl)
gone-rest part.SentOnce ne = closing-sent made_gone
gone-rest part.WasThere ne = holds AnyDue part.WasThere closing put_called made_gone refl refl (was-there (made ∷ []) refl) tt tt
gone-rest p ne = quiet AnyDue p closing put_called made_gone refl refl refl refl refl

not-there : IsOwnWrite (put_closing made_gone) 0 0 0 2 0 (long 22) → ⊥
not-there o = o.there.2 (1, subst (λ (l : List Entry). At (take 2 l) 1 (Removed 0)) (its-entries closing put_called made_gone refl refl 0 2 0 (long 22) o) refl)

pub to-a-removed-record : BreaksOnly part.OwnWrite (put_closing made_gone)
to-a-removed-record = (gone-rest, λ h. not-there (h.2 0 0 0 2 0 (long 22) (_, false, refl, refl)))

uncalled-rest : (p : Part) → (p ≡ part.OwnWrite → ⊥) → Holds AnyDue p (world (closing ∷ []) opened made_once)
uncalled-rest part.OwnWrite ne = absurd (ne refl)
uncalled-rest p ne = quiet AnyDue p closing opened made_once refl refl refl refl refl

not-called : IsOwnWrite (world (closing ∷ []) opened made_once) 0 0 0 1 0 (long 22) → ⊥
not-called o =
    let call : At opened o.called.1.0 (Called (On o.channel o.ask) (ToWrite o.given)) = subst (λ (l : List Line). At l o.called.1.0 (Called (On o.channel o.ask) (ToWrite o.given))) (sym (its-lines closing opened made_once refl refl 0 1 0 (long 22) o)) o.called.1.1 in
    none is_called opened refl o.called.1.0 _ call refl

pub nobody-called : BreaksOnly part.OwnWrite (world (closing ∷ []) opened made_once)
nobody-called = (uncalled-rest, λ h. not-called (h.2 0 0 0 1 0 (long 22) (_, false, refl, refl)))

open-rest : (p : Part) → (p ≡ part.OwnWrite → ⊥) → Holds AnyDue p (world (unhandled ∷ []) put_called made_once)
open-rest part.OwnWrite ne = absurd (ne refl)
open-rest part.SentOnce ne = sent-each unhandled put_called made_once refl refl (tt, (put-sent unhandled put_called made_once refl refl, tt))
open-rest p ne = quiet AnyDue p unhandled put_called made_once refl refl refl refl refl

not-handled : IsOwnWrite (world (unhandled ∷ []) put_called made_once) 0 0 0 1 0 (long 22) → ⊥
not-handled o =
    let is = its-circuit unhandled put_called made_once refl refl 0 1 0 (long 22) o in
    let taken : (i : ℕ) → IsTaken unhandled 0 i → ⊥ = λ i t. elim t [
      | inl h ↦ none-at 0 h.0 h.1
      | inr h ↦ (let shut : true ≡ false = h.1 in cc)
    ] in
    elim o.came [
      | inl t ↦ taken 1 (subst (λ (d : Circuit). IsTaken d 0 1) (sym is) t)
      | inr h ↦ taken h.0 (inl (subst (λ (d : Circuit). IsHandledIn d 0 h.0) (sym is) h.4))
    ]

pub before-it-came : BreaksOnly part.OwnWrite (world (unhandled ∷ []) put_called made_once)
before-it-came = (open-rest, λ h. not-handled (h.2 0 0 0 1 0 (long 22) (_, false, refl, refl)))

abbrev busies-of : Entry → Bool
busies-of (Applied n k r v b) = b
busies-of e = true

-- ---- finishes

busy-until : (more : List Entry) → IsBusyUntil (finished true more) 0 0 2
busy-until more = (1, 0, long 22, refl, omega arith, λ j m l u after early at. absurd (omega (arith, after, early)))

finish-at : (f : ℕ) → At (finished true []) f (Finished 0 0) → 2 ≡ f
finish-at f at = few-same is_finished (finished true []) refl 2 f _ _ refl at refl refl

finish-each : (p : Part) → Holds AnyDue p (put_closing (finished true []))
finish-each part.SentOnce = closing-sent (finished true [])
finish-each part.OwnWrite = own-each closing put_called (finished true []) refl refl (tt, (made-own (finished true []) 1 refl kept-1 true, (tt, tt)))
finish-each part.Finished = finished-each closing put_called (finished true []) refl refl (tt, (tt, ((busy-until [], finish-at), tt)))
finish-each p = quiet AnyDue p closing put_called (finished true []) refl refl refl refl refl

pub finished-safe : IsSafeNow (put_closing (finished true []))
finished-safe = whole AnyDue _ finish-each

finish-rest : (p : Part) → (p ≡ part.Finished → ⊥) → Holds AnyDue p (put_closing (finished true (Finished 0 0 ∷ [])))
finish-rest part.Finished ne = absurd (ne refl)
finish-rest part.SentOnce ne = closing-sent (finished true (Finished 0 0 ∷ []))
finish-rest part.OwnWrite ne = own-each closing put_called (finished true (Finished 0 0 ∷ [])) refl refl (tt, (made-own (finished true (Finished 0 0 ∷ [])) 1 refl kept-1 true, (tt, (tt, tt))))
finish-rest p ne = quiet AnyDue p closing put_called (finished true (Finished 0 0 ∷ [])) refl refl refl refl refl

pub finished-twice : BreaksOnly part.Finished (put_closing (finished true (Finished 0 0 ∷ [])))
finished-twice = (finish-rest, λ h. (let e = (h.2 0 0 0 2 _ refl refl).1 3 refl in omega (arith, e)))

idle-rest : (p : Part) → (p ≡ part.Finished → ⊥) → Holds AnyDue p (put_closing (finished false []))
idle-rest part.Finished ne = absurd (ne refl)
idle-rest part.SentOnce ne = closing-sent (finished false [])
idle-rest part.OwnWrite ne = own-each closing put_called (finished false []) refl refl (tt, (made-own (finished false []) 1 refl kept-1 false, (tt, tt)))
idle-rest p ne = quiet AnyDue p closing put_called (finished false []) refl refl refl refl refl

never-busy : IsBusyUntil (finished false []) 0 0 2 → ⊥
never-busy b = each-at (λ (i : ℕ) (e : Entry). e ≡ Applied 0 0 b.1 b.2 true → ⊥) (finished false []) ((λ e. cc), ((λ e. (let f = ap busies-of e in cc)), ((λ e. cc), tt))) b.0 _ b.3 refl

pub finished-for-nothing : BreaksOnly part.Finished (put_closing (finished false []))
finished-for-nothing = (idle-rest, λ h. never-busy (h.2 0 0 0 2 _ refl refl).0)
