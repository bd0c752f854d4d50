-- The board's rule, what each step reports, and what a seat's lists are.
use Rattle.std.specs.Prelude.{◌≡◌, ◌≢◌, ◌⊎◌, ℕ, suc, ◌+◌, ◌*◌, ◌<◌, ◌≤◌, List, [], ◌∷◌, ◌++◌}
use Rattle.std.specs.Prelude.{length, slice_index, Some, None, Option, true, false}
use mathlib.Core.Option.{some}
use mathlib.Core.Option as maybe
use lib.ListN.{get_elem?}
use Rattle.atomic_table.specs.Table.{State, Me, Step, rest}
use Rattle.ca_text.specs.Limits.{board_cells, last_generation}
use Rattle.ca_board.specs.declared.ticket.Ticket.{Ticket}
use Rattle.ca_dbr.specs.declared.value.Outcome.{Outcome}
use Rattle.ca_board.specs.declared.steps.CoreLog.{CoreLog}
use Rattle.ca_board.specs.declared.steps.CallerLog.{CallerLog}
use Rattle.ca_board.specs.declared.steps.View.{View}

abbrev pub ticket : ℕ → ℕ → Ticket
ticket k g = record { cell = k; generation = g }

-- x is somewhere in the list
abbrev pub Has : {A : Type 0} → List A → A → Type 0
Has xs x = (i : ℕ) × (get_elem? xs i ≡ some x)

abbrev pub Entry : Type 0
Entry = Ticket × Outcome

abbrev pub Slot : Type 0
Slot = Option Outcome

-- a cell, and a word that a caller found there
abbrev pub Reading : Type 0
Reading = ℕ × ℕ

abbrev pub Table : Type 0
Table = State Slot View

abbrev pub Sat : Type 0
Sat = Me Slot View

-- no fill of the ticket is in the list
abbrev pub IsUnfilled : List Entry → Ticket → Type 0
IsUnfilled fills t = (o : Outcome) → ¬ (Has fills (t, o))

-- The word of a cell is 8 times its generation, and 0 free, 1 waiting, 2 done, 3 taken, 4 empty, 5
-- given up; it goes to the next generation when it is recycled
abbrev pub core_log : List Ticket → List Entry → List Ticket → List Ticket → ℕ → CoreLog
core_log arms fills refused recycles hand =
    record { arms = arms; fills = fills; refused = refused; recycles = recycles; hand = hand }

abbrev pub caller_log : List Entry → List Ticket → List Reading → ℕ → ℕ → CallerLog
caller_log takes gives seen hand round =
    record { takes = takes; gives = gives; seen = seen; hand = hand; round = round }

abbrev pub no_core : CoreLog
no_core = core_log [] [] [] [] 0

abbrev pub no_caller : CallerLog
no_caller = caller_log [] [] [] 0 0

abbrev pub core_view : CoreLog → CallerLog → View
core_view log caller =
    record { is_core = true; core = log; caller = caller; one = no_caller; other = no_caller }

abbrev pub caller_view : CallerLog → View
caller_view caller =
    record { is_core = false; core = no_core; caller = caller; one = no_caller; other = no_caller }

-- One cell: its word, which has one of these six states, its slot, and the core's lists. The slot
-- is at home and empty while the cell is free, waiting, empty or given up, unless the core holds
-- it; it has the outcome of the fill while the cell is done. Each generation up to the word's was
-- armed, and each below it was recycled
pub record CellOk (log : CoreLog) (k n : ℕ) (home : maybe.Option (maybe.Option Slot)) : Type 0 where
  pub free : (g : ℕ) → n ≡ 8 * g → ¬ (log.hand ≡ suc k) × (home ≡ some (some None))
  pub waiting : (g : ℕ) → n ≡ 8 * g + 1 → ¬ (log.hand ≡ suc k) → home ≡ some (some None)
  pub done : (g : ℕ) → n ≡ 8 * g + 2 → (o : Outcome) × (home ≡ some (some (Some o)))
      × Has log.fills (ticket k g, o)
  pub empty : (g : ℕ) → n ≡ 8 * g + 4 → home ≡ some (some None)
  pub given : (g : ℕ) → n ≡ 8 * g + 5 → ¬ (log.hand ≡ suc k) → home ≡ some (some None)
  pub state : (g : ℕ) → 8 * g + 6 ≤ n → 8 * g + 8 ≤ n
  pub held : log.hand ≡ suc k → (g : ℕ) → n ≢ 8 * g + 2
  pub armed : (g : ℕ) → 8 * g + 1 ≤ n → Has log.arms (ticket k g)
  pub past : (g : ℕ) → 8 * g + 8 ≤ n → Has log.recycles (ticket k g)
  pub small : n < 8 * (last_generation + 1)

-- a ticket of the core's lists, beside its cell's word
abbrev pub ArmOk : List ℕ → ℕ → Ticket → Type 0
ArmOk words slots t = (t.cell < slots) × (8 * t.generation + 1 ≤ slice_index words t.cell)

abbrev pub FillOk : List ℕ → Ticket → Type 0
FillOk words t = 8 * t.generation + 2 ≤ slice_index words t.cell

-- a take: a fill of the same ticket with the same outcome, once over all seats
abbrev pub TakeOk : CoreLog → (ℕ → ℕ → ℕ × ℕ) → List ℕ → ℕ → ℕ → Entry → Type 0
TakeOk log taker words j i e =
    Has log.fills e × (taker e.0.cell e.0.generation ≡ (j, i))
    × (8 * e.0.generation + 3 ≤ slice_index words e.0.cell)

-- a give-up: no fill of the ticket was stored, and its cell is past it
abbrev pub GiveOk : CoreLog → List ℕ → Ticket → Type 0
GiveOk log words t = IsUnfilled log.fills t × (8 * t.generation + 5 ≤ slice_index words t.cell)

-- some seat gave the ticket up
abbrev pub IsGivenUp : List View → Ticket → Type 0
IsGivenUp views t = (j : ℕ) × (v : View) × (get_elem? views j ≡ some v) × Has v.caller.gives t

-- a ticket that was armed, and has no fill: its cell waits, or it was given up
abbrev pub WaitOk : List ℕ → List View → Ticket → Type 0
WaitOk words views t =
    (slice_index words t.cell ≡ 8 * t.generation + 1)
    ⊎ ((8 * t.generation + 5 ≤ slice_index words t.cell) × IsGivenUp views t)

-- the slot that a caller holds between its take and its hand-back: the word is
-- taken, by this very seat
abbrev pub HandOk : (ℕ → ℕ → ℕ × ℕ) → List ℕ → ℕ → CallerLog → Type 0
HandOk taker words j c =
    (k : ℕ) → c.hand ≡ suc k → (slice_index words k ≡ 8 * c.round + 3) × ((taker k c.round).0 ≡ j)

-- what one seat knows: its core's part is the core's lists, each of its takes and give-ups is
-- right, and no word went back after what it found
pub record SeatOk (keeper : ℕ) (log : CoreLog) (taker : ℕ → ℕ → ℕ × ℕ) (words : List ℕ) (j : ℕ)
    (v : View) : Type 0 where
  pub core : v.is_core ≡ true → (j ≡ keeper) × (v.core ≡ log)
  pub takes : (i : ℕ) (e : Entry) → get_elem? v.caller.takes i ≡ some e
      → TakeOk log taker words j i e
  pub gives : (i : ℕ) (t : Ticket) → get_elem? v.caller.gives i ≡ some t → GiveOk log words t
  pub seen : (i : ℕ) (x : Reading) → get_elem? v.caller.seen i ≡ some x
      → x.1 ≤ slice_index words x.0
  pub hand : HandOk taker words j v.caller

-- How the words, the slots and the views of all seats fit the core's lists. The seat `keeper` is
-- the core's; `taker` gives, for a ticket that was taken, the one seat that took it and the place
-- in its list, so no ticket is taken twice
pub record KeptAt (keeper : ℕ) (log : CoreLog) (taker : ℕ → ℕ → ℕ × ℕ) (s : Table) : Type 0 where
  pub wide : length s.words ≡ length s.homes
  pub each_cell : (k : ℕ) → k < length s.homes
      → CellOk log k (slice_index s.words k) (get_elem? s.homes k)
  pub each_arm : (i : ℕ) (t : Ticket) → get_elem? log.arms i ≡ some t
      → ArmOk s.words (length s.homes) t
  pub each_fill : (i : ℕ) (e : Entry) → get_elem? log.fills i ≡ some e → FillOk s.words e.0
  pub each_cycle : (i : ℕ) (t : Ticket) → get_elem? log.recycles i ≡ some t
      → 8 * t.generation + 8 ≤ slice_index s.words t.cell
  pub each_wait : (t : Ticket) → Has log.arms t → IsUnfilled log.fills t → WaitOk s.words s.views t
  pub each_refusal : (i : ℕ) (t : Ticket) → get_elem? log.refused i ≡ some t → IsGivenUp s.views t
  pub each_seat : (j : ℕ) (v : View) → get_elem? s.views j ≡ some v
      → SeatOk keeper log taker s.words j v

-- The board's rule: one seat is the core's, and its lists, the words, the slots and each seat's
-- takes and give-ups fit
abbrev pub Kept : Table → Type 0
Kept s = (keeper : ℕ) × (log : CoreLog) × (taker : ℕ → ℕ → ℕ × ℕ) × KeptAt keeper log taker s

-- the cell is between its arm and its recycle
abbrev pub InUse : List Ticket → List Ticket → ℕ → Type 0
InUse arms recycles k = (g : ℕ) × Has arms (ticket k g) × ¬ (Has recycles (ticket k g))

-- the generation g of the cell was not armed, and each before it was recycled
abbrev pub IsNext : List Ticket → List Ticket → ℕ → ℕ → Type 0
IsNext arms recycles k g = ¬ (Has arms (ticket k g)) × ((h : ℕ) → h < g → Has recycles (ticket k h))

-- the cell's generation g is freed: it was armed, as each before it, and not recycled yet
abbrev pub Frees : List Ticket → List Ticket → ℕ → ℕ → Type 0
Frees arms recycles k g =
    ((h : ℕ) → h ≤ g → Has arms (ticket k h))
    × ¬ (Has recycles (ticket k g))
    × IsNext arms (recycles ++ ticket k g ∷ []) k (g + 1)

-- The free list: the next ticket of each cell that is not in use, once
pub record IsStock (arms recycles free : List Ticket) : Type 0 where
  pub next : (i : ℕ) (t : Ticket) → get_elem? free i ≡ some t → (t.cell < board_cells)
      × IsNext arms recycles t.cell t.generation
  pub once : (i j : ℕ) (t u : Ticket) → get_elem? free i ≡ some t → get_elem? free j ≡ some u
      → t.cell ≡ u.cell → i ≡ j
  pub every : (k : ℕ) → k < board_cells → InUse arms recycles k ⊎ ((g : ℕ) × Has free (ticket k g))

-- nothing was done with the ticket but, perhaps, its arm
abbrev pub IsUntouched : List Entry → List Ticket → List Ticket → Ticket → Type 0
IsUntouched fills refused recycles t = IsUnfilled fills t × ¬ (Has refused t) × ¬ (Has recycles t)

-- A view with one thing more. A core's seat then holds no slot, unless a fill came after a give-up
abbrev pub armed_too : View → Ticket → View
armed_too v t =
    core_view
    (core_log (v.core.arms ++ t ∷ []) v.core.fills v.core.refused v.core.recycles 0) v.caller

abbrev pub filled_too : View → Ticket → Outcome → View
filled_too v t o =
    core_view
    (core_log v.core.arms (v.core.fills ++ (t, o) ∷ []) v.core.refused v.core.recycles 0) v.caller

abbrev pub refused_too : View → Ticket → View
refused_too v t =
    core_view
    (core_log v.core.arms v.core.fills
    (v.core.refused ++ t ∷ []) v.core.recycles v.core.hand) v.caller

abbrev pub recycled_too : View → Ticket → View
recycled_too v t =
    core_view
    (core_log v.core.arms v.core.fills v.core.refused (v.core.recycles ++ t ∷ []) 0) v.caller

-- a ticket was taken back, and given up by a part of the seat that is split off then
abbrev pub back_too : View → Ticket → List Ticket → View
back_too v t recycles =
    core_view (core_log v.core.arms v.core.fills (v.core.refused ++ t ∷ []) recycles 0)
    (caller_log [] (t ∷ []) [] 0 0)

-- the core's seat holds the slot of the cell before this number, or none at 0
abbrev pub holding : View → ℕ → View
holding v h =
    core_view (core_log v.core.arms v.core.fills v.core.refused v.core.recycles h) v.caller

-- a caller has taken a ticket, and holds its slot
abbrev pub taken_too : View → Ticket → Outcome → View
taken_too v t o =
    caller_view
    (caller_log (v.caller.takes ++ (t, o) ∷ []) v.caller.gives v.caller.seen
    (suc t.cell) t.generation)

abbrev pub given_too : View → Ticket → View
given_too v t = caller_view (caller_log v.caller.takes (v.caller.gives ++ t ∷ []) v.caller.seen 0 0)

abbrev pub read_too : View → ℕ → ℕ → View
read_too v k n =
    caller_view (caller_log v.caller.takes v.caller.gives (v.caller.seen ++ (k, n) ∷ []) 0 0)

-- What the steps tell: of the step's word and first operand, the seat before, the number that it
-- found, the seat after
abbrev pub armed : Step Slot → Sat → ℕ → Sat → Type 0
armed st m r m' = (g : ℕ) → st.first ≡ 8 * g + 1
    → IsUntouched m.0.core.fills m.0.core.refused m.0.core.recycles (ticket st.word g)
    × (m' ≡ (armed_too m.0 (ticket st.word g), m.1))

abbrev pub recycled : Step Slot → Sat → ℕ → Sat → Type 0
recycled st m r m' = (g : ℕ) → (st.first ≡ 8 * g + 4) ⊎ (st.first ≡ 8 * g + 5)
    → (r ≡ st.first → Frees m.0.core.arms m.0.core.recycles st.word g
    × (m' ≡ (recycled_too m.0 (ticket st.word g), m.1)))
    × (r ≢ st.first → m' ≡ m)

-- the core takes back a ticket that nobody has used: it is given up, by a seat of its own, and its
-- cell is free for the next generation, or stays given up
abbrev pub taken_back : Step Slot → Sat → ℕ → Sat → Type 0
taken_back st m r m' = (g : ℕ)
    → (st.first ≡ 8 * g + 8 → Frees m.0.core.arms m.0.core.recycles st.word g
    × (m' ≡ (back_too m.0 (ticket st.word g) (m.0.core.recycles ++ ticket st.word g ∷ []), m.1)))
    × (st.first ≡ 8 * g + 5 → m' ≡ (back_too m.0 (ticket st.word g) m.0.core.recycles, m.1))

-- the core holds the slot of a cell that waits, under whichever ticket; else nothing was done
abbrev pub looked_at : Step Slot → Sat → ℕ → Sat → Type 0
looked_at st m r m' =
    ((g : ℕ) → r ≡ 8 * g + 1 → m' ≡ (holding m.0 (suc st.word), (st.word, None) ∷ m.1))
    × (((g : ℕ) → r ≢ 8 * g + 1) → m' ≡ m)

-- the core holds the slot of a waiting cell, or its ticket was given up
abbrev pub grabbed : Step Slot → Sat → ℕ → Sat → Type 0
grabbed st m r m' = (g : ℕ) → st.first ≡ 8 * g + 1
    → (r ≡ st.first → m' ≡ (holding m.0 (suc st.word), (st.word, None) ∷ m.1))
    × (r ≢ st.first → m' ≡ (refused_too m.0 (ticket st.word g), m.1))

-- the outcome in the slot that was taken last is handed over, or the ticket was given up
abbrev pub filled : Step Slot → Sat → ℕ → Sat → Type 0
filled st m r m' = (g : ℕ) (o : Outcome) → st.first ≡ 8 * g + 1 → m.1 ≡ (st.word, Some o) ∷ rest m.1
    → (r ≡ st.first → m' ≡ (filled_too m.0 (ticket st.word g) o, rest m.1))
    × (r ≢ st.first → m' ≡ (refused_too m.0 (ticket st.word g), m.1))

-- the core gives back the slot of a ticket that was given up
abbrev pub returned : Step Slot → Sat → ℕ → Sat → Type 0
returned st m r m' = m' ≡ (holding m.0 0, rest m.1)

-- the ticket was found ended: the word of its cell had gone past it
abbrev pub HasEnded : List Reading → Ticket → Type 0
HasEnded seen t = (n : ℕ) × Has seen (t.cell, n) × (8 * t.generation + 3 ≤ n)

-- the ticket is none that this seat has taken, given up, or found ended
abbrev pub IsOpen : List Entry → List Ticket → List Reading → Ticket → Type 0
IsOpen takes gives seen t = IsUnfilled takes t × ¬ (Has gives t) × ¬ (HasEnded seen t)

-- no word that was found in the cell before is greater
abbrev pub IsLatest : List Reading → ℕ → ℕ → Type 0
IsLatest seen k n = (m : ℕ) → Has seen (k, m) → m ≤ n

-- a caller found another word than it wanted, and keeps that in mind
abbrev pub looked : ℕ → Sat → ℕ → Sat → Type 0
looked k m r m' = IsLatest m.0.caller.seen k r × (m' ≡ (read_too m.0 k r, m.1))

-- a caller looked at a cell: no ticket of it past which its word is not was taken or given up by
-- this seat, or found ended
abbrev pub found_out : Step Slot → Sat → ℕ → Sat → Type 0
found_out st m r m' = looked st.word m r m'
    × ((g : ℕ) → r ≤ 8 * g + 2
    → IsOpen m.0.caller.takes m.0.caller.gives m.0.caller.seen (ticket st.word g))

abbrev pub took : Step Slot → Sat → ℕ → Sat → Type 0
took st m r m' = (g : ℕ) → st.first ≡ 8 * g + 2
    → (r ≡ st.first → (o : Outcome)
    × IsOpen m.0.caller.takes m.0.caller.gives m.0.caller.seen (ticket st.word g)
    × (m' ≡ (taken_too m.0 (ticket st.word g) o, (st.word, Some o) ∷ m.1)))
    × (r ≢ st.first → looked st.word m r m')

abbrev pub gave_back : Step Slot → Sat → ℕ → Sat → Type 0
gave_back st m r m' =
    m' ≡ (caller_view (caller_log m.0.caller.takes m.0.caller.gives m.0.caller.seen 0 0), rest m.1)

abbrev pub gave_up : Step Slot → Sat → ℕ → Sat → Type 0
gave_up st m r m' = (g : ℕ) → st.first ≡ 8 * g + 1
    → (r ≡ st.first → IsOpen m.0.caller.takes m.0.caller.gives m.0.caller.seen (ticket st.word g)
    × (m' ≡ (given_too m.0 (ticket st.word g), m.1)))
    × (r ≢ st.first → looked st.word m r m')

-- What a core's view and a caller's say together: each take is a fill of that ticket with that
-- outcome, no ticket is taken twice, and none that was given up has a fill
abbrev pub Agrees : List Entry → List Entry → List Ticket → Type 0
Agrees fills takes gives = ((i : ℕ) (e : Entry) → get_elem? takes i ≡ some e → Has fills e)
    × ((i i' : ℕ) (e e' : Entry) → get_elem? takes i ≡ some e → get_elem? takes i' ≡ some e'
    → e.0 ≡ e'.0 → i ≡ i')
    × ((i : ℕ) (t : Ticket) → get_elem? gives i ≡ some t → IsUnfilled fills t)

abbrev pub compared : Step Slot → Sat → ℕ → Sat → Type 0
compared st m r m' = (m' ≡ m) × Agrees m.0.core.fills m.0.caller.takes m.0.caller.gives

-- What two callers' views say together: no ticket was taken by both, nor taken by one and
-- given up by the other
abbrev pub Apart : List Entry → List Ticket → List Entry → List Ticket → Type 0
Apart takes gives takes' gives' =
    ((i i' : ℕ) (e e' : Entry) → get_elem? takes i ≡ some e → get_elem? takes' i' ≡ some e'
    → e.0 ≢ e'.0)
    × ((i i' : ℕ) (e : Entry) (t : Ticket) → get_elem? takes i ≡ some e
    → get_elem? gives' i' ≡ some t → e.0 ≢ t)
    × ((i i' : ℕ) (t : Ticket) (e : Entry) → get_elem? gives i ≡ some t
    → get_elem? takes' i' ≡ some e → t ≢ e.0)

abbrev pub held_apart : Step Slot → Sat → ℕ → Sat → Type 0
held_apart st m r m' = (m' ≡ m) × Apart m.0.one.takes m.0.one.gives m.0.other.takes m.0.other.gives

abbrev pub core_part : View → View
core_part v =
    record {
      is_core = v.is_core;
      core = v.core;
      caller = no_caller;
      one = no_caller;
      other = no_caller;
    }

abbrev pub caller_part : View → View
caller_part v = caller_view v.caller

abbrev pub both_parts : View → View → View
both_parts v w =
    record {
      is_core = v.is_core;
      core = v.core;
      caller = w.caller;
      one = no_caller;
      other = no_caller;
    }

-- two callers' logs as one
abbrev pub both_logs : CallerLog → CallerLog → CallerLog
both_logs a b = caller_log (a.takes ++ b.takes) (a.gives ++ b.gives) (a.seen ++ b.seen) 0 0

-- two callers' views in one seat, which keeps in mind what each was
abbrev pub pair_view : CallerLog → CallerLog → View
pair_view a b =
    record { is_core = false; core = no_core; caller = both_logs a b; one = a; other = b }

abbrev pub paired : View → View → View
paired v w = pair_view v.caller w.caller

abbrev pub one_part : View → View
one_part v = caller_view v.one

abbrev pub other_part : View → View
other_part v = caller_view v.other

abbrev pub nobody : View
nobody = caller_view no_caller
