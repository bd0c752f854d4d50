-- Statement: the state under the lock. Each request that waits has a ticket of its own, which is to
-- be filled; and what completions do with tickets.
use Rattle.std.specs.Prelude.{◌≡◌, ◌⊎◌, ◌<◌, List, [], ◌∷◌, Some, filter, is_none, length}
use Rattle.std.specs.Prelude.{slice_index_or}
use Rattle.atomic_table.specs.Seated.{TableId}
use Rattle.ca_text.specs.Limits.{arena_slots}
use Rattle.ca_arena.specs.declared.handle.Handle.{Handle}
use Rattle.ca_board.specs.declared.ticket.Ticket.{Ticket}
use Rattle.ca_board.specs.History.{ticket}
use Rattle.ca_board.specs.Views.{CoreView, IsDue, with_fill, with_refusal}
use Rattle.ca_dbr.specs.declared.value.Outcome.{Outcome}
use Rattle.ca_ids.specs.Table.{under}
use Rattle.ca_requests.specs.Requests.{Open, Request}
use Rattle.ca_model.specs.Answers.{Notice}
use Rattle.ca_model.specs.Client.{Client}
use Rattle.ca_model.specs.Placed.{IsPlaced}
use Rattle.ca_client_core.specs.Notices.{Completion, completion}

-- What the lock keeps: the client, the core's seat at the board, which says of which board it is,
-- and the table of tickets, by the indices of requests.
pub record StateView : Type 0 where
  pub core : Client
  pub seat : CoreView
  pub tickets : List Ticket

-- the ticket of a request
abbrev pub ticket_of : List Ticket → Handle → Ticket
ticket_of tickets q = slice_index_or tickets q.index (ticket 0 0)

-- The request waits: it is open.
abbrev pub Waits : Client → Handle → Type 0
Waits x q = (r : Request) × (under x.requests q ≡ Some r) × (r.stage ≡ Open)

-- Each of these requests has a ticket that is to be filled, and no two have one.
pub record AreAwaited (seat : CoreView) (tickets : List Ticket)
    (asked : Handle → Type 0) : Type 0 where
  pub each : (q : Handle) → asked q → (q.index < length tickets) × IsDue seat (ticket_of tickets q)
  pub once : (p q : Handle) → asked p → asked q → ticket_of tickets p ≡ ticket_of tickets q → p ≡ q

-- the handle is one of these
abbrev pub Among : List Handle → Handle → Type 0
Among [] q = ⊥
Among (h ∷ hs) q = (h ≡ q) ⊎ Among hs q

-- none of them is there twice
abbrev pub AreApart : List Handle → Type 0
AreApart [] = Unit {0}
AreApart (h ∷ hs) = ¬ (Among hs h) × AreApart hs

-- The requests in order of issue are open, and each is there once.
pub record IsListed (x : Client) : Type 0 where
  pub wait : (q : Handle) → Among x.issued q → Waits x q
  pub once : AreApart x.issued

-- what the fields keep
pub record IsState (core : Client) (seat : CoreView) (board : TableId)
    (tickets : List Ticket) : Type 0 where
  pub same : seat.board ≡ board
  pub wide : length tickets ≡ arena_slots
  pub placed : IsPlaced core
  pub listed : IsListed core
  pub awaited : AreAwaited seat tickets (Waits core)

-- ---- completions

-- the notices that tell of no completion, in order
abbrev pub others : List Notice → List Notice
others ns = filter (λ (n : Notice). is_none (completion n)) ns

-- One ticket was filled with this outcome: it was stored, or the ticket was given up.
abbrev pub Fills : CoreView → Ticket → Outcome → CoreView → Type 0
Fills v t o w = (w ≡ with_fill v t o) ⊎ (w ≡ with_refusal v t)

-- For each completion, in order, the request's own ticket was filled with its
-- outcome, and no other.
abbrev pub FillsAll : List Ticket → CoreView → List Completion → CoreView → Type 0
FillsAll tickets v [] w = w ≡ v
FillsAll tickets v (c ∷ cs) w =
    (u : CoreView) × Fills v (ticket_of tickets c.0) c.1 u × FillsAll tickets u cs w

-- Working: the tickets can be filled one after another, whatever becomes of each fill.
abbrev pub Fillable : List Ticket → CoreView → List Completion → Type 0
Fillable tickets v [] = Unit {0}
Fillable tickets v (c ∷ cs) =
    (c.0.index < length tickets) × IsDue v (ticket_of tickets c.0)
    × ((u : CoreView) → Fills v (ticket_of tickets c.0) c.1 u → Fillable tickets u cs)
