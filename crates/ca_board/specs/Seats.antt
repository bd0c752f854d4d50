-- What a seat's fields are between two calls.
use Rattle.std.specs.Prelude.{◌≡◌, ℕ, ◌<◌, ◌≤◌, List, []}
use mathlib.Core.Option.{some}
use lib.ListN.{get_elem?}
use Rattle.atomic_table.specs.Seated.{TableId}
use Rattle.atomic_table.specs.declared.shared.Seat.{Seat}
use Rattle.ca_text.specs.Limits.{board_cells}
use Rattle.ca_board.specs.declared.ticket.Ticket.{Ticket}
use Rattle.ca_board.specs.declared.steps.View.{View}
use Rattle.ca_board.specs.History.{Has, IsUnfilled, Slot, core_view, core_log, caller_view}
use Rattle.ca_board.specs.History.{caller_log, no_caller, IsStock}
use Rattle.ca_board.specs.Views.{CoreView, CallerView}

-- a board has a word and a slot for each cell
abbrev pub IsBoard : TableId → Type 0
IsBoard z = (z.words ≡ board_cells) × (z.slots ≡ board_cells)

abbrev pub BoardSeat : Type 0
BoardSeat = Seat Slot View

abbrev pub seen_by_core : BoardSeat → CoreView
seen_by_core s = let log = s.me.0.core in
    record {
      board = s.table_id;
      arms = log.arms;
      fills = log.fills;
      refused = log.refused;
      recycles = log.recycles;
    }

abbrev pub seen_by_caller : BoardSeat → CallerView
seen_by_caller s =
    record {
      board = s.table_id;
      takes = s.me.0.caller.takes;
      gives = s.me.0.caller.gives;
      seen = s.me.0.caller.seen;
    }

-- each ticket is of a cell of the board
abbrev pub IsInside : List Ticket → Type 0
IsInside ts = (i : ℕ) (t : Ticket) → get_elem? ts i ≡ some t → t.cell < board_cells

-- the core's seat holds no slot
abbrev pub IsIdle : BoardSeat → Type 0
IsIdle s =
    let log = s.me.0.core in
    s.me ≡ (core_view (core_log log.arms log.fills log.refused log.recycles 0) no_caller, [])

-- the core armed the ticket, of a cell of the board, and did not fill it
abbrev pub IsWaiting : BoardSeat → Ticket → Type 0
IsWaiting s t = Has s.me.0.core.arms t × IsUnfilled s.me.0.core.fills t × (t.cell < board_cells)

-- The core's seat holds no slot, each of its tickets is of a cell of the board, and
-- its free list is right
pub record IsCoreSeat (s : BoardSeat) (free : List Ticket) (room : ℕ) : Type 0 where
  pub idle : IsIdle s
  pub inside : IsInside s.me.0.core.arms
  pub stock : IsStock s.me.0.core.arms s.me.0.core.recycles free
  pub wide : board_cells ≤ room

-- a caller's seat holds no slot
abbrev pub IsCallerSeat : BoardSeat → Type 0
IsCallerSeat s =
    s.me
    ≡ (caller_view (caller_log s.me.0.caller.takes s.me.0.caller.gives s.me.0.caller.seen 0 0), [])
