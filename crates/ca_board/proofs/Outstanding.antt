-- Tickets that are outstanding together, where one more is armed, and where one is filled.
use Rattle.std.proofs.Common.{◌≡◌, ◌≢◌, ◌<◌, ℕ, zero, suc, get_or, arith, List, [], ◌∷◌, ◌++◌, length, refl, sym, ap, ◌∙◌, subst, ⊎_elim, inl, inr}
use mathlib.Core.Option.{some}
use lib.ListN.{get_elem?}
use Rattle.atomic_table.proofs.Lists.{at_snoc}
use Rattle.ca_dbr.specs.declared.value.Outcome.{Outcome}
use Rattle.ca_board.specs.declared.ticket.Ticket.{Ticket}
use Rattle.ca_board.specs.declared.ticket.Filled.{Filled}
use Rattle.ca_board.specs.declared.ticket.Filled.TheVariants.{Stored, GivenUp}
use Rattle.std.specs.Prelude.{Bool, true, false, IsTrue, IsFalse}
use Rattle.ca_board.specs.History.{ticket, Frees, Has, Entry}
use Rattle.ca_board.specs.Views.{CoreView, IsDue, HasFilled, HasTakenBack, with_arm, with_recycle}
use Rattle.ca_board.specs.Outstanding.{AreDue}
use Rattle.ca_board.proofs.Stock.{has_snoc, at_snoc_index}

-- one more ticket, which was never armed
pub due_more : (old new : CoreView) (t : Ticket) (ts : List Ticket) → AreDue old ts → new ≡ with_arm old t → IsDue new t → ¬ (Has old.arms t) → AreDue new (ts ++ t ∷ [])
due_more old new t ts all e due fresh = record {
  each = λ i u at. ⊎_elim
      (λ was. let d = all.each i u was in subst (λ (v : CoreView). IsDue v u) (sym e) (has_snoc old.arms u t d.0, d.1, d.2))
      (λ (is : t ≡ u). subst (IsDue new) is due)
      (at_snoc ts t u i at);
  once = λ i j u a b. ⊎_elim
      (λ was. ⊎_elim (λ was'. all.once i j u was was') (λ (q : (j ≡ length ts) × (t ≡ u)). absurd (fresh (subst (Has old.arms) (sym q.1) (all.each i u was).0))) (at_snoc_index ts t u j b))
      (λ (q : (i ≡ length ts) × (t ≡ u)). ⊎_elim (λ was'. absurd (fresh (subst (Has old.arms) (sym q.1) (all.each j u was').0))) (λ (q' : (j ≡ length ts) × (t ≡ u)). q.0 ∙ sym q'.0) (at_snoc_index ts t u j b))
      (at_snoc_index ts t u i a);
}

not_refused : (rs : List Ticket) (t u : Ticket) → ¬ (Has rs u) → t ≢ u → ¬ (Has (rs ++ t ∷ []) u)
not_refused rs t u not apart h = ⊎_elim (λ was. not (h.0, was)) (λ (is : t ≡ u). apart is) (at_snoc rs t u h.0 h.1)

-- a ticket stays due where another is filled
pub due_filled : (old new : CoreView) (t u : Ticket) (o : Outcome) (r : Filled) → HasFilled old t o r new → IsDue old u → t ≢ u → IsDue new u
due_filled old new t u o Stored f d apart = subst (λ (v : CoreView). IsDue v u) (sym f)
    (d.0, (λ p h. ⊎_elim (λ was. d.1 p (h.0, was)) (λ (is : (t, o) ≡ (u, p)). absurd (apart (ap (λ (x : Entry). x.0) is))) (at_snoc old.fills (t, o) (u, p) h.0 h.1)), d.2)
due_filled old new t u o (GivenUp back) f d apart = subst (λ (v : CoreView). IsDue v u) (sym f.1)
    (d.0, d.1, not_refused old.refused t u d.2 apart)

-- and where another is taken back
pub due_taken_back : (old new : CoreView) (t u : Ticket) → HasTakenBack old t new → IsDue old u → t ≢ u → IsDue new u
due_taken_back old new t u (inl freed) d apart = subst (λ (v : CoreView). IsDue v u) (sym freed.2) (d.0, d.1, not_refused old.refused t u d.2 apart)
due_taken_back old new t u (inr last) d apart = subst (λ (v : CoreView). IsDue v u) (sym last.1) (d.0, d.1, not_refused old.refused t u d.2 apart)

-- a ticket stays due where a cell is recycled
pub due_recycled : (old new : CoreView) (t u : Ticket) → new ≡ with_recycle old t → IsDue old u → IsDue new u
due_recycled old new t u e d = subst (λ (v : CoreView). IsDue v u) (sym e) d

-- what is read at a place is there
pub at_slice : (xs : List Ticket) (i : ℕ) (d : Ticket) → i < length xs → get_elem? xs i ≡ some (get_or xs i d)
at_slice [] i d l = absurd (omega arith)
at_slice (x ∷ xs) zero d l = refl
at_slice (x ∷ xs) (suc i) d l = at_slice xs i d (omega arith)

-- a ticket stays due, whatever a recycle answers
pub due_recycle : (old new : CoreView) (cell : ℕ) (r : Bool) (u : Ticket) → (IsTrue r → (g : ℕ) × Frees old.arms old.recycles cell g × (new ≡ with_recycle old (ticket cell g))) → (IsFalse r → new ≡ old) → IsDue old u → IsDue new u
due_recycle old new cell true u freed kept d = let f = freed refl in due_recycled old new (ticket cell f.0) u f.2 d
due_recycle old new cell false u freed kept d = subst (λ (v : CoreView). IsDue v u) (sym (kept refl)) d
