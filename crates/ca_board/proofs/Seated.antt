-- Each call leaves the seat at its board.
use Rattle.std.proofs.Common.{◌≡◌, ℕ, Ok, Err, Some, None, inl, inr, refl, ap}
use Rattle.std.specs.Prelude.{Option, Result, Bool, true, false, IsTrue, IsFalse}
use Rattle.ca_text.specs.declared.refusal.Refusal.{Refusal}
use Rattle.ca_dbr.specs.declared.value.Outcome.{Outcome}
use Rattle.ca_board.specs.declared.ticket.Ticket.{Ticket}
use Rattle.ca_board.specs.declared.ticket.Filled.{Filled}
use Rattle.ca_board.specs.declared.ticket.Filled.TheVariants.{Stored, GivenUp}
use Rattle.ca_board.specs.Views.{CoreView, CallerView, HasArmed, HasFilled, HasCollected, HasGivenUp, HasRecycled, HasTakenBack}

pub armed_board : (old new : CoreView) (r : Result Ticket Refusal) → HasArmed old r new → new.board ≡ old.board
armed_board old new (Ok t) f = ap (λ (v : CoreView). v.board) f.0
armed_board old new (Err e) f = ap (λ (v : CoreView). v.board) f.1

pub filled_board : (old new : CoreView) (t : Ticket) (o : Outcome) (r : Filled) → HasFilled old t o r new → new.board ≡ old.board
filled_board old new t o Stored f = ap (λ (v : CoreView). v.board) f
filled_board old new t o (GivenUp back) f = ap (λ (v : CoreView). v.board) f.1

pub recycled_board : (old new : CoreView) (cell : ℕ) (r : Bool) → (IsTrue r → HasRecycled old cell new) → (IsFalse r → new ≡ old) → new.board ≡ old.board
recycled_board old new cell true freed kept = ap (λ (v : CoreView). v.board) (freed refl).2
recycled_board old new cell false freed kept = ap (λ (v : CoreView). v.board) (kept refl)

pub taken_back_board : (old new : CoreView) (t : Ticket) → HasTakenBack old t new → new.board ≡ old.board
taken_back_board old new t (inl freed) = ap (λ (v : CoreView). v.board) freed.2
taken_back_board old new t (inr last) = ap (λ (v : CoreView). v.board) last.1

pub collected_board : (old new : CallerView) (t : Ticket) (r : Option Outcome) → HasCollected old t r new → new.board ≡ old.board
collected_board old new t None (inl out) = ap (λ (v : CallerView). v.board) out.1
collected_board old new t None (inr found) = ap (λ (v : CallerView). v.board) found.2.2
collected_board old new t (Some o) f = ap (λ (v : CallerView). v.board) f.0

pub given_board : (old new : CallerView) (t : Ticket) (r : Option Outcome) → HasGivenUp old t r new → new.board ≡ old.board
given_board old new t None (inl out) = ap (λ (v : CallerView). v.board) out.1
given_board old new t None (inr (inl given)) = ap (λ (v : CallerView). v.board) given.0
given_board old new t None (inr (inr found)) = ap (λ (v : CallerView). v.board) found.2
given_board old new t (Some o) f = ap (λ (v : CallerView). v.board) f.1
