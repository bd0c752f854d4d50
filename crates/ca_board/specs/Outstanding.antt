-- Tickets that are outstanding together.
use Rattle.std.specs.Prelude.{◌≡◌, ℕ, List}
use mathlib.Core.Option.{some}
use lib.ListN.{get_elem?}
use Rattle.ca_board.specs.declared.ticket.Ticket.{Ticket}
use Rattle.ca_board.specs.Views.{CoreView, IsDue}

-- each ticket of the list is to be filled, and is in it once
pub record AreDue (v : CoreView) (ts : List Ticket) : Type 0 where
  pub each : (i : ℕ) (t : Ticket) → get_elem? ts i ≡ some t → IsDue v t
  pub once : (i j : ℕ) (t : Ticket) → get_elem? ts i ≡ some t → get_elem? ts j ≡ some t → i ≡ j
