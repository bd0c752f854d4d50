-- Tickets that are awaited, through recycles, arms and fills.
use Rattle.std.proofs.Common.{◌≡◌, ◌≢◌, ◌⊎◌, ◌<◌, ℕ, zero, suc, List, [], ◌∷◌, length, set, get_or, Bool, true, false, refl, sym, ap, ◌∙◌, subst, ⊎_elim, inl, inr, arith, IsTrue, IsFalse, Ok, Err}
use Rattle.std.proofs.Math.ListN.{length-set}
use Rattle.ca_text.specs.declared.refusal.Refusal.{Refusal}
use Rattle.ca_arena.specs.declared.handle.Handle.{Handle}
use Rattle.ca_board.specs.declared.ticket.Ticket.{Ticket}
use Rattle.ca_board.specs.declared.ticket.Filled.{Filled}
use Rattle.ca_board.specs.declared.ticket.Filled.TheVariants.{Stored, GivenUp}
use Rattle.ca_board.specs.History.{ticket, Has, IsUnfilled}
use Rattle.ca_board.specs.Views.{CoreView, IsDue, HasArmed, HasFilled, HasRecycled, HasTakenBack, with_arm, with_fill, with_refusal}
use Rattle.ca_board.proofs.Outstanding.{due_filled, due_taken_back}
use Rattle.ca_board.proofs.Stock.{has_snoc}
use Rattle.ca_dbr.specs.declared.value.Outcome.{Outcome}
use Rattle.std.specs.Prelude.{Result}
use Rattle.ca_client_core.specs.Notices.{Completion}
use Rattle.ca_client.specs.Awaited.{AreAwaited, Fillable, Fills, FillsAll, ticket_of}
use Rattle.ca_client.specs.Calls.{AreInUse, HasArmedAfter, HasArmedOne, Recycles, RecyclesBelow, RecyclesEach}

-- a fill, as it is said here
pub filled_is : (v w : CoreView) (t : Ticket) (o : Outcome) (r : Filled) → HasFilled v t o r w → Fills v t o w
filled_is v w t o Stored f = inl f
filled_is v w t o (GivenUp back) f = inr f.1

due_apart : (v w : CoreView) (t u : Ticket) (o : Outcome) → Fills v t o w → IsDue v u → t ≢ u → IsDue w u
due_apart v w t u o f d ne = ⊎_elim
    (λ (e : w ≡ with_fill v t o). due_filled v w t u o Stored e d ne)
    (λ (e : w ≡ with_refusal v t). due_filled v w t u o (GivenUp o) (refl, e) d ne)
    f

-- ---- requests that wait, one after another complete

-- those that wait, but for one
abbrev pub But : (Handle → Type 0) → Handle → Handle → Type 0
But asked q k = asked k × (k ≢ q)

-- The completions are of requests that wait, each once.
abbrev pub Tells : (Handle → Type 0) → List Completion → Type 0
Tells asked [] = Unit {0}
Tells asked (c ∷ cs) = asked c.0 × Tells (But asked c.0) cs

-- those that wait after them
abbrev pub Leaves : (Handle → Type 0) → List Completion → Handle → Type 0
Leaves asked [] = asked
Leaves asked (c ∷ cs) = Leaves (But asked c.0) cs

module _ (ts : List Ticket) where
  pub fewer_awaited : (v : CoreView) (asked fewer : Handle → Type 0) → ((q : Handle) → fewer q → asked q) → AreAwaited v ts asked → AreAwaited v ts fewer
  fewer_awaited v asked fewer f a = record { each = λ q h. a.each q (f q h); once = λ p q h k e. a.once p q (f p h) (f q k) e }

  -- the tickets of the other requests stay awaited
  awaited_fill : (v w : CoreView) (asked : Handle → Type 0) (q : Handle) (o : Outcome) → AreAwaited v ts asked → asked q → Fills v (ticket_of ts q) o w → AreAwaited w ts (But asked q)
  awaited_fill v w asked q o a here f = record {
    each = λ k h. (let e = a.each k h.0 in (e.0, due_apart v w (ticket_of ts q) (ticket_of ts k) o f e.1 (λ same. h.1 (sym (a.once q k here h.0 same)))));
    once = λ k l h m same. a.once k l h.0 m.0 same;
  }

  pub fillable_awaited : (v : CoreView) (asked : Handle → Type 0) (cs : List Completion) → AreAwaited v ts asked → Tells asked cs → Fillable ts v cs
  fillable_awaited v asked [] a t = tt
  fillable_awaited v asked (c ∷ cs) a t =
      let e = a.each c.0 t.0 in
      (e.0, e.1, λ u f. fillable_awaited u (But asked c.0) cs (awaited_fill v u asked c.0 c.1 a t.0 f) t.1)

  pub filled_awaited : (v w : CoreView) (asked : Handle → Type 0) (cs : List Completion) → AreAwaited v ts asked → Tells asked cs → FillsAll ts v cs w → AreAwaited w ts (Leaves asked cs)
  filled_awaited v w asked [] a t f = subst (λ (x : CoreView). AreAwaited x ts asked) (sym f) a
  filled_awaited v w asked (c ∷ cs) a t f =
      filled_awaited f.0 w (But asked c.0) cs (awaited_fill v f.0 asked c.0 c.1 a t.0 f.1) t.1 f.2

  pub filled_board : (v w : CoreView) (cs : List Completion) → FillsAll ts v cs w → w.board ≡ v.board
  filled_board v w [] f = ap (λ (x : CoreView). x.board) f
  filled_board v w (c ∷ cs) f = filled_board f.0 w cs f.2 ∙ ⊎_elim
      (λ (e : f.0 ≡ with_fill v (ticket_of ts c.0) c.1). ap (λ (x : CoreView). x.board) e)
      (λ (e : f.0 ≡ with_refusal v (ticket_of ts c.0)). ap (λ (x : CoreView). x.board) e)
      f.1

-- ---- recycles

-- Nothing but recycles was done with the seat.
abbrev pub OnlyRecycled : CoreView → CoreView → Type 0
OnlyRecycled v w = (w.board ≡ v.board) × (w.arms ≡ v.arms) × (w.fills ≡ v.fills) × (w.refused ≡ v.refused)

pub recycles_is : (v w : CoreView) (k : ℕ) (r : Bool) → (IsTrue r → HasRecycled v k w) → (IsFalse r → w ≡ v) → Recycles v k w
recycles_is v w k true f g = inl (f refl)
recycles_is v w k false f g = inr (g refl)

pub only_more : (v w u : CoreView) (k : ℕ) → OnlyRecycled v w → Recycles w k u → OnlyRecycled v u
only_more v w u k o r = ⊎_elim (λ (h : HasRecycled w k u). subst (OnlyRecycled v) (sym h.2) o) (λ (e : u ≡ w). subst (OnlyRecycled v) (sym e) o) r

only_below : (n : ℕ) (v w : CoreView) → RecyclesBelow n v w → OnlyRecycled v w
only_below zero v w e = subst (OnlyRecycled v) (sym e) (refl, refl, refl, refl)
only_below (suc n) v w r = only_more v r.0 w n (only_below n v r.0 r.1) r.2

pub only_each : (v w : CoreView) → RecyclesEach v w → OnlyRecycled v w
only_each v w r = only_below r.0 v w r.2

-- after some recycles one cell was armed
pub armed_after : (v w : CoreView) (t : Ticket) → HasArmedOne v (Ok t) w → (mid : CoreView) × OnlyRecycled v mid × HasArmed mid (Ok t) w
armed_after v w t a = ⊎_elim
    (λ (f : HasArmed v (Ok t) w). (v, (refl, refl, refl, refl), f))
    (λ (f : AreInUse v × HasArmedAfter v (Ok t) w). (f.1.0, only_each v f.1.0 f.1.1, f.1.2))
    a

pub armed_on : (v mid w : CoreView) (r : Result Ticket Refusal) → AreInUse v → RecyclesEach v mid → HasArmed mid r w → HasArmedOne v r w
armed_on v mid w (Ok t) used each a = inr (used, (mid, each, a))
armed_on v mid w (Err e) used each a = (used, (mid, each, a))

-- or none
pub unarmed : (v w : CoreView) (e : Refusal) → HasArmedOne v (Err e) w → OnlyRecycled v w
unarmed v w e a = subst (OnlyRecycled v) (sym a.1.2.1) (only_each v a.1.0 a.1.1)

pub due_recycled : (v w : CoreView) (u : Ticket) → OnlyRecycled v w → IsDue v u → IsDue w u
due_recycled v w u o d = (
  subst (λ (xs : List Ticket). Has xs u) (sym o.1) d.0,
  subst (λ (xs : List (Ticket × Outcome)). IsUnfilled xs u) (sym o.2) d.1,
  subst (λ (xs : List Ticket). ¬ (Has xs u)) (sym o.3) d.2,
)

pub due_armed : (v w : CoreView) (t u : Ticket) → w ≡ with_arm v t → IsDue v u → IsDue w u
due_armed v w t u e d = subst (λ (x : CoreView). IsDue x u) (sym e) (has_snoc v.arms u t d.0, d.1, d.2)

pub awaited_kept : (v w : CoreView) (ts : List Ticket) (asked : Handle → Type 0) → AreAwaited v ts asked → ((u : Ticket) → IsDue v u → IsDue w u) → AreAwaited w ts asked
awaited_kept v w ts asked a k = record { each = λ q h. let e = a.each q h in (e.0, k (ticket_of ts q) e.1); once = a.once }

pub awaited_recycled : (v w : CoreView) (ts : List Ticket) (asked : Handle → Type 0) → OnlyRecycled v w → AreAwaited v ts asked → AreAwaited w ts asked
awaited_recycled v w ts asked o a = awaited_kept v w ts asked a (λ u d. due_recycled v w u o d)

-- a ticket that was never armed was armed and taken back, and the core refused
pub awaited_refused : (v mid armed w : CoreView) (ts : List Ticket) (asked : Handle → Type 0) (t : Ticket) → AreAwaited v ts asked → OnlyRecycled v mid → armed ≡ with_arm mid t → ¬ (Has mid.arms t) → HasTakenBack armed t w → AreAwaited w ts asked
awaited_refused v mid armed w ts asked t a o e new back = awaited_kept v w ts asked a
    (λ u d. let due = due_recycled v mid u o d in due_taken_back armed w t u back (due_armed mid armed t u e due) (λ same. new (subst (Has mid.arms) (sym same) due.0)))

-- ---- a new request

set_same : (ts : List Ticket) (i : ℕ) (t d : Ticket) → i < length ts → get_or (set ts i t) i d ≡ t
set_same [] i t d l = absurd (omega arith)
set_same (x ∷ xs) zero t d l = refl
set_same (x ∷ xs) (suc i) t d l = set_same xs i t d (omega arith)

set_other : (ts : List Ticket) (i j : ℕ) (t d : Ticket) → (j ≡ i → ⊥) → get_or (set ts i t) j d ≡ get_or ts j d
set_other [] i j t d ne = refl
set_other (x ∷ xs) zero zero t d ne = absurd (ne refl)
set_other (x ∷ xs) zero (suc j) t d ne = refl
set_other (x ∷ xs) (suc i) zero t d ne = refl
set_other (x ∷ xs) (suc i) (suc j) t d ne = set_other xs i j t d (λ e. ne (ap suc e))

-- A request was made under a ticket that was never armed; of its index no request waits.
pub awaited_issue : (v w : CoreView) (ts : List Ticket) (asked more : Handle → Type 0) (q : Handle) (t : Ticket) → AreAwaited v ts asked → w ≡ with_arm v t → ¬ (Has v.arms t) → IsDue w t → q.index < length ts
    → ((k : Handle) → asked k → k.index ≡ q.index → ⊥) → ((k : Handle) → more k → (k ≡ q) ⊎ asked k) → AreAwaited w (set ts q.index t) more
awaited_issue v w ts asked more q t a e new due l free back = record {
  each = λ k h. ⊎_elim
      (λ (is : k ≡ q). subst (λ (x : Handle). (x.index < length (set ts q.index t)) × IsDue w (ticket_of (set ts q.index t) x)) (sym is)
      (subst (λ (n : ℕ). q.index < n) (sym len) l, subst (IsDue w) (sym here) due))
      (λ (was : asked k). let f = a.each k was in
      (subst (λ (n : ℕ). k.index < n) (sym len) f.0, subst (IsDue w) (sym (other k was)) (due_armed v w t (ticket_of ts k) e f.1)))
      (back k h);
  once = λ j k h m same. ⊎_elim
      (λ (j_is : j ≡ q). ⊎_elim
      (λ (k_is : k ≡ q). j_is ∙ sym k_is)
      (λ (k_was : asked k). absurd (apart k k_was (sym (other k k_was) ∙ (sym same ∙ (ap (ticket_of (set ts q.index t)) j_is ∙ here)))))
      (back k m))
      (λ (j_was : asked j). ⊎_elim
      (λ (k_is : k ≡ q). absurd (apart j j_was (sym (other j j_was) ∙ (same ∙ (ap (ticket_of (set ts q.index t)) k_is ∙ here)))))
      (λ (k_was : asked k). a.once j k j_was k_was (sym (other j j_was) ∙ (same ∙ other k k_was)))
      (back k m))
      (back j h);
}
  where
    len : length (set ts q.index t) ≡ length ts
    len = length-set ts q.index t

    here : ticket_of (set ts q.index t) q ≡ t
    here = set_same ts q.index t (ticket 0 0) l

    other : (k : Handle) → asked k → ticket_of (set ts q.index t) k ≡ ticket_of ts k
    other k was = set_other ts q.index k.index t (ticket 0 0) (free k was)

    apart : (k : Handle) → asked k → ticket_of ts k ≡ t → ⊥
    apart k was same = new (subst (Has v.arms) same ((a.each k was).1.0))

pub ticket_at : (ts : List Ticket) (i : ℕ) (t : Ticket) → i < length ts → t ≡ get_or ts i t → t ≡ get_or ts i (ticket 0 0)
ticket_at [] i t l e = absurd (omega arith)
ticket_at (x ∷ xs) zero t l e = e
ticket_at (x ∷ xs) (suc i) t l e = ticket_at xs i t (omega arith) e
