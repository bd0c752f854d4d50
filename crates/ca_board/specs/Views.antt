-- The seats of a board, as its calls speak of them: which board, and what was done with the seat.
use Rattle.std.specs.Prelude.{◌≡◌, ◌≢◌, ◌⊎◌, ◌+◌, ◌*◌, ◌<◌, ◌≤◌, ℕ, ◌++◌, List, [], ◌∷◌, Option}
use Rattle.std.specs.Prelude.{Result, MatchOption, MatchResult}
use Rattle.atomic_table.specs.Seated.{TableId}
use Rattle.ca_text.specs.Limits.{board_cells, last_generation}
use Rattle.ca_text.specs.declared.refusal.Refusal.{Refusal}
use Rattle.ca_text.specs.declared.refusal.Refusal.TheVariants.{NoCell}
use Rattle.ca_board.specs.History.{ticket, Has, HasEnded, IsUnfilled, IsLatest, IsOpen, InUse}
use Rattle.ca_board.specs.History.{IsNext, Frees, Reading}
use Rattle.ca_board.specs.declared.ticket.Ticket.{Ticket}
use Rattle.ca_board.specs.declared.ticket.Filled.{Filled}
use Rattle.ca_board.specs.declared.ticket.Filled.TheVariants.{Stored, GivenUp}
use Rattle.ca_dbr.specs.declared.value.Outcome.{Outcome}

-- The core's seat: the tickets that it armed, its fills with their outcomes, the tickets that it is
-- not to fill, since the fill came after a give-up or the core took the ticket back, and the
-- tickets whose cell it freed after them
pub record CoreView : Type 0 where
  pub board : TableId
  pub arms : List Ticket
  pub fills : List (Ticket × Outcome)
  pub refused : List Ticket
  pub recycles : List Ticket

-- A caller's seat: the outcomes that it collected, each with its ticket, the tickets that it gave
-- up, and the words that it found in cells where there was nothing to take or to give up
pub record CallerView : Type 0 where
  pub board : TableId
  pub takes : List (Ticket × Outcome)
  pub gives : List Ticket
  pub seen : List Reading

-- nothing was done with the seat yet
abbrev pub core_start : TableId → CoreView
core_start z = record { board = z; arms = []; fills = []; refused = []; recycles = [] }

abbrev pub caller_start : TableId → CallerView
caller_start z = record { board = z; takes = []; gives = []; seen = [] }

-- one thing more was done with the seat
abbrev pub with_arm : CoreView → Ticket → CoreView
with_arm v t =
    record {
      board = v.board;
      arms = v.arms ++ t ∷ [];
      fills = v.fills;
      refused = v.refused;
      recycles = v.recycles;
    }

abbrev pub with_fill : CoreView → Ticket → Outcome → CoreView
with_fill v t o =
    record {
      board = v.board;
      arms = v.arms;
      fills = v.fills ++ (t, o) ∷ [];
      refused = v.refused;
      recycles = v.recycles;
    }

abbrev pub with_refusal : CoreView → Ticket → CoreView
with_refusal v t =
    record {
      board = v.board;
      arms = v.arms;
      fills = v.fills;
      refused = v.refused ++ t ∷ [];
      recycles = v.recycles;
    }

abbrev pub with_recycle : CoreView → Ticket → CoreView
with_recycle v t =
    record {
      board = v.board;
      arms = v.arms;
      fills = v.fills;
      refused = v.refused;
      recycles = v.recycles ++ t ∷ [];
    }

abbrev pub with_take : CallerView → Ticket → Outcome → CallerView
with_take v t o =
    record { board = v.board; takes = v.takes ++ (t, o) ∷ []; gives = v.gives; seen = v.seen }

abbrev pub with_give_up : CallerView → Ticket → CallerView
with_give_up v t =
    record { board = v.board; takes = v.takes; gives = v.gives ++ t ∷ []; seen = v.seen }

abbrev pub with_reading : CallerView → ℕ → ℕ → CallerView
with_reading v k n =
    record { board = v.board; takes = v.takes; gives = v.gives; seen = v.seen ++ (k, n) ∷ [] }

-- the ticket was armed, and is to be filled
abbrev pub IsDue : CoreView → Ticket → Type 0
IsDue v t = Has v.arms t × IsUnfilled v.fills t × ¬ (Has v.refused t)

-- What an arm answers: the next ticket of a cell that is free, which is then to be filled, and its
-- cell was not freed since; or NoCell, if each cell is in use
abbrev pub HasArmed : CoreView → Result Ticket Refusal → CoreView → Type 0
HasArmed old result new = MatchResult result
    (λ t. (new ≡ with_arm old t) × IsNext old.arms old.recycles t.cell t.generation × IsDue new t
    × ¬ (Has new.recycles t))
    (λ e. (e ≡ NoCell) × (new ≡ old) × ((k : ℕ) → k < board_cells → InUse old.arms old.recycles k))

-- What a fill of the ticket answers: it was stored; or the ticket was given up, and the
-- same outcome comes back
abbrev pub HasFilled : CoreView → Ticket → Outcome → Filled → CoreView → Type 0
HasFilled old t o Stored new = new ≡ with_fill old t o
HasFilled old t o (GivenUp back) new = (back ≡ o) × (new ≡ with_refusal old t)

-- the ticket is none that this seat has taken, given up, or found ended
abbrev pub IsOwnOpen : CallerView → Ticket → Type 0
IsOwnOpen v t = IsOpen v.takes v.gives v.seen t

-- the ticket is of no cell of the board, and nothing was done
abbrev pub IsOutside : CallerView → Ticket → CallerView → Type 0
IsOutside old t new = (board_cells ≤ t.cell) × (new ≡ old)

-- the word of the ticket's cell was found to be n, no less than ever before, and
-- nothing else was done
abbrev pub Found : CallerView → Ticket → ℕ → CallerView → Type 0
Found old t n new =
    (t.cell < board_cells) × IsLatest old.seen t.cell n × (new ≡ with_reading old t.cell n)

-- the ticket was found not armed yet
abbrev pub IsEarly : List Reading → Ticket → Type 0
IsEarly seen t = (n : ℕ) × Has seen (t.cell, n) × (n ≤ 8 * t.generation)

-- What a collection answers: an outcome, once for a ticket; or none, if its cell was
-- found not to be done
abbrev pub HasCollected : CallerView → Ticket → Option Outcome → CallerView → Type 0
HasCollected old t result new = MatchOption result
    (IsOutside old t new ⊎ ((n : ℕ) × (n ≢ 8 * t.generation + 2) × Found old t n new))
    (λ o. (new ≡ with_take old t o) × IsOwnOpen old t × (t.cell < board_cells))

-- What a give-up answers: the outcome that was there, and that is a take; or none, and the ticket
-- was given up, or found ended, or found not armed yet
abbrev pub HasGivenUp : CallerView → Ticket → Option Outcome → CallerView → Type 0
HasGivenUp old t result new = MatchOption result
    (IsOutside old t new
    ⊎ (((new ≡ with_give_up old t) × IsOwnOpen old t)
    ⊎ ((m : ℕ) × (n : ℕ) × (new ≡ with_reading (with_reading old t.cell m) t.cell n)
    × (HasEnded new.seen t ⊎ IsEarly new.seen t))))
    (λ o. (n : ℕ) × (new ≡ with_take (with_reading old t.cell n) t o) × IsOwnOpen old t)

-- What a look at the ticket says: that it has ended, since the word of its cell was found past it,
-- or since it is of no cell
abbrev pub HasFoundEnded : CallerView → Ticket → CallerView → Type 0
HasFoundEnded old t new =
    IsOutside old t new ⊎ ((n : ℕ) × (8 * t.generation + 3 ≤ n) × Found old t n new)

-- or that it has not, since the word was found not to be past it; then this seat did not end it,
-- nor find it ended before
abbrev pub HasFoundOpen : CallerView → Ticket → CallerView → Type 0
HasFoundOpen old t new =
    IsOwnOpen old t × ((n : ℕ) × (n ≤ 8 * t.generation + 2) × Found old t n new)

-- What a recycle of the cell did if it answers true: the cell is free for its next generation
abbrev pub HasRecycled : CoreView → ℕ → CoreView → Type 0
HasRecycled old k new =
    (g : ℕ) × Frees old.arms old.recycles k g × (new ≡ with_recycle old (ticket k g))

-- What taking a ticket back did: it is not to be filled any more, and its cell is free for its next
-- generation, unless its own was the last
abbrev pub HasTakenBack : CoreView → Ticket → CoreView → Type 0
HasTakenBack old t new =
    ((t.generation < last_generation) × Frees old.arms old.recycles t.cell t.generation
    × (new ≡ with_recycle (with_refusal old t) t))
    ⊎ ((last_generation ≤ t.generation) × (new ≡ with_refusal old t))
