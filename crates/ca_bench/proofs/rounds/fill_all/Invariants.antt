use Rattle.std.proofs.Common.{◌≡◌, ◌≤◌, ℕ}
use mathlib.Core.Option.{some}
use lib.ListN.{get_elem?}
use Rattle.ca_board.specs.declared.ticket.Ticket.{Ticket}
use Rattle.ca_board.specs.Views.{IsDue}
use Rattle.ca_bench.proofs.rounds.fill_all.Given as goal

abbrev pub invariant-loop-place : goal.invariant-loop-place
invariant-loop-place l = (l.core.board ≡ l.board) × (l.stored ≤ l.place) × ((j : ℕ) (t : Ticket) → l.place ≤ j → get_elem? l.tickets j ≡ some t → IsDue l.core t)
