-- What a seat is after a step.
use Rattle.std.proofs.Common.{◌≡◌, ◌≢◌, ℕ, suc, ◌+◌, ◌*◌, ◌<◌, ◌≤◌, List, [], ◌∷◌, ◌++◌, Some, None, ◌⊎◌, inl, inr, arith, sym, ap, ◌∙◌, subst, ⊎_elim}
use mathlib.Core.Logic.{dite}
use native.Mathlib.Decide.{dec_le}
use Rattle.ca_board.specs.Views.{CallerView, Found, HasCollected, HasGivenUp, IsOutside, with_reading}
use Rattle.ca_board.proofs.Stock.{has_snoc, has_last}
use mathlib.Core.Option as maybe
use Rattle.atomic_table.specs.Table.{step, rest}
use Rattle.ca_dbr.specs.declared.value.Outcome.{Outcome}
use Rattle.ca_board.specs.declared.steps.View.{View}
use mathlib.Core.Option.{some}
use Rattle.atomic_table.specs.Seated.{TableId}
use Rattle.atomic_table.proofs.Lists.{at_snoc}
use Rattle.ca_board.specs.declared.ticket.Ticket.{Ticket}
use Rattle.ca_text.specs.Limits.{board_cells}
use Rattle.ca_board.specs.History.{IsStock, both_parts, ticket, Slot, IsOpen, Has, IsLatest, Reading, looked, filled, returned, holding, refused_too, took, gave_back, gave_up, Entry, Sat, core_view, core_log, caller_view, caller_log, no_caller}
use Rattle.ca_board.specs.Seats.{BoardSeat, IsCoreSeat, IsCallerSeat, IsInside, seen_by_core, seen_by_caller}

abbrev pub core_sat : List Ticket → List Entry → List Ticket → List Ticket → ℕ → List (ℕ × Slot) → Sat
core_sat ts fs rs cs h c = (core_view (core_log ts fs rs cs h) no_caller, c)

abbrev pub caller_sat : List Entry → List Ticket → List Reading → ℕ → ℕ → List (ℕ × Slot) → Sat
caller_sat tk gs sn h q c = (caller_view (caller_log tk gs sn h q), c)

-- a seat's fields are right, where its view is known
pub core_sound : (s : BoardSeat) (ts : List Ticket) (fs : List Entry) (rs cs free : List Ticket) (room : ℕ) → s.me ≡ core_sat ts fs rs cs 0 [] → IsInside ts → IsStock ts cs free → board_cells ≤ room → IsCoreSeat s free room
core_sound s ts fs rs cs free room m inside stock wide = record {
  idle = m ∙ ap (λ (x : Sat). core_sat x.0.core.arms x.0.core.fills x.0.core.refused x.0.core.recycles 0 []) (sym m);
  inside = subst (λ (x : Sat). IsInside x.0.core.arms) (sym m) inside;
  stock = subst (λ (x : Sat). IsStock x.0.core.arms x.0.core.recycles free) (sym m) stock;
  wide = wide;
}

pub caller_sound : (s : BoardSeat) (tk : List Entry) (gs : List Ticket) (sn : List Reading) → s.me ≡ caller_sat tk gs sn 0 0 [] → IsCallerSeat s
caller_sound s tk gs sn m = m ∙ ap (λ (x : Sat). caller_sat x.0.caller.takes x.0.caller.gives x.0.caller.seen 0 0 []) (sym m)

-- what a contract sees of a seat whose view is known
pub core_seen : (s : BoardSeat) (z : TableId) (ts : List Ticket) (fs : List Entry) (rs cs : List Ticket) → s.table_id ≡ z → s.me ≡ core_sat ts fs rs cs 0 [] → seen_by_core s ≡ record { board = z; arms = ts; fills = fs; refused = rs; recycles = cs }
core_seen s z ts fs rs cs e m i = record { board = e i; arms = (m i).0.core.arms; fills = (m i).0.core.fills; refused = (m i).0.core.refused; recycles = (m i).0.core.recycles }

pub caller_seen : (s : BoardSeat) (z : TableId) (tk : List Entry) (gs : List Ticket) (sn : List Reading) → s.table_id ≡ z → s.me ≡ caller_sat tk gs sn 0 0 [] → seen_by_caller s ≡ record { board = z; takes = tk; gives = gs; seen = sn }
caller_seen s z tk gs sn e m i = record { board = e i; takes = (m i).0.caller.takes; gives = (m i).0.caller.gives; seen = (m i).0.caller.seen }

pub inside_snoc : (ts : List Ticket) (t : Ticket) → IsInside ts → t.cell < board_cells → IsInside (ts ++ t ∷ [])
inside_snoc ts t all near i x at = ⊎_elim (λ was. all i x was) (λ (is : t ≡ x). subst (λ (y : Ticket). y.cell < board_cells) is near) (at_snoc ts t x i at)

-- the core's steps
pub armed_after : (m m' : Sat) (ts : List Ticket) (fs : List Entry) (rs cs : List Ticket) (k g : ℕ) → m ≡ core_sat ts fs rs cs 0 [] → m' ≡ (core_view (core_log (m.0.core.arms ++ ticket k g ∷ []) m.0.core.fills m.0.core.refused m.0.core.recycles 0) m.0.caller, m.1) → m' ≡ core_sat (ts ++ ticket k g ∷ []) fs rs cs 0 []
armed_after m m' ts fs rs cs k g e e' = e' ∙ ap (λ (x : Sat). (core_view (core_log (x.0.core.arms ++ ticket k g ∷ []) x.0.core.fills x.0.core.refused x.0.core.recycles 0) x.0.caller, x.1)) e

pub freed_after : (m m' : Sat) (ts : List Ticket) (fs : List Entry) (rs cs : List Ticket) (k g : ℕ) → m ≡ core_sat ts fs rs cs 0 [] → m' ≡ (core_view (core_log m.0.core.arms m.0.core.fills m.0.core.refused (m.0.core.recycles ++ ticket k g ∷ []) 0) m.0.caller, m.1) → m' ≡ core_sat ts fs rs (cs ++ ticket k g ∷ []) 0 []
freed_after m m' ts fs rs cs k g e e' = e' ∙ ap (λ (x : Sat). (core_view (core_log x.0.core.arms x.0.core.fills x.0.core.refused (x.0.core.recycles ++ ticket k g ∷ []) 0) x.0.caller, x.1)) e

-- the core's seat, by what `grab` says of it: the ticket was given up, or its
-- cell's slot is held, empty
pub refused_sat : (t : Ticket) (m m' : Sat) (ts : List Ticket) (fs : List Entry) (rs cs : List Ticket) → m ≡ core_sat ts fs rs cs 0 [] → m' ≡ (refused_too m.0 t, []) → m' ≡ core_sat ts fs (rs ++ t ∷ []) cs 0 []
refused_sat t m m' ts fs rs cs e f = f ∙ ap (λ (x : Sat). (refused_too x.0 t, [])) e

pub taken_sat : (k : ℕ) (m m' : Sat) (ts : List Ticket) (fs : List Entry) (rs cs : List Ticket) → m ≡ core_sat ts fs rs cs 0 [] → m' ≡ (holding m.0 (suc k), (k, None) ∷ []) → m' ≡ core_sat ts fs rs cs (suc k) ((k, None) ∷ [])
taken_sat k m m' ts fs rs cs e f = f ∙ ap (λ (x : Sat). (holding x.0 (suc k), (k, None) ∷ [])) e

-- the core holds the slot, and has put the outcome into it
pub loaded : (k : ℕ) (m m' : Sat) (ts : List Ticket) (fs : List Entry) (rs cs : List Ticket) (o : Outcome) → m ≡ core_sat ts fs rs cs (suc k) ((k, None) ∷ []) → m' ≡ (m.0, (k, Some o) ∷ rest m.1) → m' ≡ core_sat ts fs rs cs (suc k) ((k, Some o) ∷ [])
loaded k m m' ts fs rs cs o e f = f ∙ ap (λ (x : Sat). (x.0, (k, Some o) ∷ rest x.1)) e

-- the one slot that a seat holds
pub holds_one : (m : Sat) (k : ℕ) (v : View) (x : Slot) → m ≡ (v, (k, x) ∷ []) → m.1 ≡ (k, x) ∷ rest m.1
holds_one m k v x e = ap (λ (y : Sat). y.1) e ∙ ap (λ (y : Sat). (k, x) ∷ rest y.1) (sym e)

-- the outcome was handed over
pub finished : (n k g first second r : ℕ) (m m' : Sat) (ts : List Ticket) (fs : List Entry) (rs cs : List Ticket) (o : Outcome) → m ≡ core_sat ts fs rs cs (suc k) ((k, Some o) ∷ []) → filled (step n k first second maybe.none) m r m' → first ≡ 8 * g + 1 → r ≡ first
    → m' ≡ core_sat ts (fs ++ (ticket k g, o) ∷ []) rs cs 0 []
finished n k g first second r m m' ts fs rs cs o e f one hit = (f g o one (holds_one m k _ (Some o) e)).0 hit ∙ ap (λ (x : Sat). (core_view (core_log x.0.core.arms (x.0.core.fills ++ (ticket k g, o) ∷ []) x.0.core.refused x.0.core.recycles 0) x.0.caller, rest x.1)) e

-- the ticket was given up, and the core holds the slot with the outcome still
pub outrun : (n k g first second r : ℕ) (m m' : Sat) (ts : List Ticket) (fs : List Entry) (rs cs : List Ticket) (o : Outcome) → m ≡ core_sat ts fs rs cs (suc k) ((k, Some o) ∷ []) → filled (step n k first second maybe.none) m r m' → first ≡ 8 * g + 1 → r ≢ first
    → m' ≡ core_sat ts fs (rs ++ ticket k g ∷ []) cs (suc k) ((k, Some o) ∷ [])
outrun n k g first second r m m' ts fs rs cs o e f one miss = (f g o one (holds_one m k _ (Some o) e)).1 miss ∙ ap (λ (x : Sat). (refused_too x.0 (ticket k g), x.1)) e

-- the slot is empty and at home again
pub put_home : (n k r : ℕ) (m m' : Sat) (ts : List Ticket) (fs : List Entry) (rs cs : List Ticket) → m ≡ core_sat ts fs rs cs (suc k) ((k, None) ∷ []) → returned (step n k 0 0 maybe.none) m r m' → m' ≡ core_sat ts fs rs cs 0 []
put_home n k r m m' ts fs rs cs e f = f ∙ ap (λ (x : Sat). (core_view (core_log x.0.core.arms x.0.core.fills x.0.core.refused x.0.core.recycles 0) x.0.caller, rest x.1)) e

-- a caller's steps
abbrev pub Taken : ℕ → ℕ → List Entry → List Ticket → List Reading → Sat → Type 0
Taken k g tk gs sn m = (o : Outcome) × IsOpen tk gs sn (ticket k g) × (m ≡ caller_sat (tk ++ (ticket k g, o) ∷ []) gs sn (suc k) g ((k, Some o) ∷ []))

pub taken : (n k g first second r : ℕ) (m m' : Sat) (tk : List Entry) (gs : List Ticket) (sn : List Reading) → m ≡ caller_sat tk gs sn 0 0 [] → took (step n k first second maybe.none) m r m' → first ≡ 8 * g + 2 → r ≡ first → Taken k g tk gs sn m'
taken n k g first second r m m' tk gs sn e f one hit = let t = (f g one).0 hit in
    (t.0, subst (λ (x : Sat). IsOpen x.0.caller.takes x.0.caller.gives x.0.caller.seen (ticket k g)) e t.1, t.2 ∙ ap (λ (x : Sat). (caller_view (caller_log (x.0.caller.takes ++ (ticket k g, t.0) ∷ []) x.0.caller.gives x.0.caller.seen (suc k) g), (k, Some t.0) ∷ x.1)) e)

pub emptied : (k : ℕ) (m m' : Sat) (v : View) (x : Slot) → m ≡ (v, (k, x) ∷ []) → m' ≡ (m.0, (k, None) ∷ rest m.1) → m' ≡ (v, (k, None) ∷ [])
emptied k m m' v x e e' = e' ∙ ap (λ (y : Sat). (y.0, (k, None) ∷ rest y.1)) e

pub given : (n k new r q : ℕ) (m m' : Sat) (tk : List Entry) (gs : List Ticket) (sn : List Reading) → m ≡ caller_sat tk gs sn (suc k) q ((k, None) ∷ []) → gave_back (step n k new 0 maybe.none) m r m' → m' ≡ caller_sat tk gs sn 0 0 []
given n k new r q m m' tk gs sn e f = f ∙ ap (λ (x : Sat). (caller_view (caller_log x.0.caller.takes x.0.caller.gives x.0.caller.seen 0 0), rest x.1)) e

pub ended : (n k g first second r : ℕ) (m m' : Sat) (tk : List Entry) (gs : List Ticket) (sn : List Reading) → m ≡ caller_sat tk gs sn 0 0 [] → gave_up (step n k first second maybe.none) m r m' → first ≡ 8 * g + 1 → r ≡ first → IsOpen tk gs sn (ticket k g) × (m' ≡ caller_sat tk (gs ++ ticket k g ∷ []) sn 0 0 [])
ended n k g first second r m m' tk gs sn e f one hit = let t = (f g one).0 hit in
    (subst (λ (x : Sat). IsOpen x.0.caller.takes x.0.caller.gives x.0.caller.seen (ticket k g)) e t.0, t.1 ∙ ap (λ (x : Sat). (caller_view (caller_log x.0.caller.takes (x.0.caller.gives ++ ticket k g ∷ []) x.0.caller.seen 0 0), x.1)) e)

abbrev head_or : List (ℕ × Slot) → Slot
head_or [] = None
head_or (x ∷ xs) = x.1

-- what was in the slot
pub found_there : (k : ℕ) (m : Sat) (v : View) (x y : Slot) (l : List (ℕ × Slot)) → m ≡ (v, (k, x) ∷ []) → m.1 ≡ (k, y) ∷ l → y ≡ x
found_there k m v x y l e f = ap head_or (sym f) ∙ ap (λ (z : Sat). head_or z.1) e

-- the core's seat with a caller's view
pub together : (m n m' : Sat) (ts : List Ticket) (fs tk : List Entry) (gs rs cs : List Ticket) (sn : List Reading) → m ≡ core_sat ts fs rs cs 0 [] → n ≡ caller_sat tk gs sn 0 0 [] → m' ≡ (both_parts m.0 n.0, m.1) → m' ≡ (core_view (core_log ts fs rs cs 0) (caller_log tk gs sn 0 0), [])
together m n m' ts fs tk gs rs cs sn e f g = g ∙ (λ i. (both_parts (e i).0 (f i).0, (e i).1))

-- a word was found that is not the wanted one
pub missed_word : (k r : ℕ) (m m' : Sat) (tk : List Entry) (gs : List Ticket) (sn : List Reading) → m ≡ caller_sat tk gs sn 0 0 [] → looked k m r m' → IsLatest sn k r × (m' ≡ caller_sat tk gs (sn ++ (k, r) ∷ []) 0 0 [])
missed_word k r m m' tk gs sn e f =
    (subst (λ (x : Sat). IsLatest x.0.caller.seen k r) e f.0, f.1 ∙ ap (λ (x : Sat). (caller_view (caller_log x.0.caller.takes x.0.caller.gives (x.0.caller.seen ++ (k, r) ∷ []) 0 0), x.1)) e)

-- what a give-up says where its ticket did not wait, and it collected
after_word : (old : CallerView) (t : Ticket) (m : ℕ) (r : Slot) (new : CallerView) → m ≢ 8 * t.generation + 1 → HasCollected (with_reading old t.cell m) t r new → t.cell < board_cells → HasGivenUp old t r new
after_word old t m None new miss (inl out) near = let far = out.0 in absurd (omega arith)
after_word old t m None new miss (inr found) near =
    let n : ℕ = found.0 in
    let first : Has (old.seen ++ (t.cell, m) ∷ []) (t.cell, m) = has_last old.seen (t.cell, m) in
    let later : m ≤ n = found.2.1 m first in
    let one : Has new.seen (t.cell, m) = subst (λ (v : CallerView). Has v.seen (t.cell, m)) (sym found.2.2) (has_snoc (old.seen ++ (t.cell, m) ∷ []) (t.cell, m) (t.cell, n) first) in
    let two : Has new.seen (t.cell, n) = subst (λ (v : CallerView). Has v.seen (t.cell, n)) (sym found.2.2) (has_last (old.seen ++ (t.cell, m) ∷ []) (t.cell, n)) in
    let other = found.1 in
    inr (inr (m, n, found.2.2, dite (dec_le m (8 * t.generation)) (λ early. inr (m, one, early)) (λ late. inl (n, two, omega arith))))
after_word old t m (Some o) new miss f near =
    (m, f.0, ((λ q has. f.1.0 q has), (λ has. f.1.1 has), λ past. f.1.2 (past.0, has_snoc old.seen (t.cell, past.0) (t.cell, m) past.1, past.2)))

outside_given : (old new : CallerView) (t : Ticket) (r : Slot) → board_cells ≤ t.cell → HasCollected old t r new → HasGivenUp old t r new
outside_given old new t None far (inl out) = inl out
outside_given old new t None far (inr found) = let near = found.2.0 in absurd (omega arith)
outside_given old new t (Some o) far f = let near = f.2 in absurd (omega arith)

pub collected_instead : (old v new : CallerView) (t : Ticket) (r : Slot) → IsOutside old t v ⊎ ((n : ℕ) × (n ≢ 8 * t.generation + 1) × Found old t n v) → HasCollected v t r new → HasGivenUp old t r new
collected_instead old v new t r (inl out) f = outside_given old new t r out.0 (subst (λ (x : CallerView). HasCollected x t r new) out.1 f)
collected_instead old v new t r (inr found) f =
    after_word old t found.0 r new found.1 (subst (λ (x : CallerView). HasCollected x t r new) found.2.2 f) found.2.0

-- a word that was found, as a contract sees it
pub found_as : (s : BoardSeat) (old : CallerView) (t : Ticket) (n : ℕ) (tk : List Entry) (gs : List Ticket) (sn : List Reading) (z : TableId) (m : Sat) → t.cell < board_cells → s.table_id ≡ z → m ≡ caller_sat tk gs sn 0 0 [] → looked t.cell m n s.me
    → record { board = z; takes = tk; gives = gs; seen = sn } ≡ old → Found old t n (seen_by_caller s)
found_as s old t n tk gs sn z m near id was word is =
    let now = missed_word t.cell n m s.me tk gs sn was word in
    (near, subst (λ (v : CallerView). IsLatest v.seen t.cell n) is now.0, caller_seen s z tk gs (sn ++ (t.cell, n) ∷ []) id now.1 ∙ ap (λ (v : CallerView). with_reading v t.cell n) is)
