-- The core arms a cell, and frees it.
use Rattle.std.proofs.Common.{◌≡◌, ◌⊎◌, ℕ, ◌+◌, ◌-◌, ◌*◌, ◌/◌, ◌%◌, ◌<◌, ◌≤◌, List, [], ◌∷◌, ◌++◌, length, set, get_or, eqb, inl, inr, refl, sym, ◌∙◌, subst, ⊎_elim, arith, length-set, get_or-set_other, get_or-set_same}
use mathlib.Core.Logic.{dite}
use mathlib.Core.Option.{some, some-ne-none, some-injective}
use mathlib.Core.Option as maybe
use native.Mathlib.Decide.{ℕ_discrete, dec_le}
use lib.ListN.{get_elem?}
use prog.Atomic.{either}
use Rattle.atomic_table.specs.Table.{Act, step, keeps, stepped, Valid, carried_after, Allows}
use Rattle.atomic_table.proofs.Lists.{at_snoc, exchanged}
use Rattle.ca_board.proofs.Stock.{has_snoc, has_last}
use Rattle.ca_board.specs.declared.ticket.Ticket.{Ticket}
use Rattle.ca_board.specs.declared.steps.CoreLog.{CoreLog}
use Rattle.ca_board.specs.declared.steps.View.{View}
use Rattle.ca_board.specs.History.{ticket, Has, Entry, Slot, Table, Sat, core_log, no_caller, core_view, CellOk, ArmOk, SeatOk, KeptAt, Kept, IsNext, Frees, IsUntouched, armed, recycled}
use Rattle.ca_board.proofs.Rule.{Takers, grows, others_know, seats_stay, given_stays, wait_stays, still, found, core_sat, core_ok}

-- arm
pub arms_kept : (s : Table) (id k g : ℕ) (ts : List Ticket) (fs : List Entry) (rs cs : List Ticket) (taker : Takers) → KeptAt id (core_log ts fs rs cs 0) taker s → k < length s.homes → get_or s.words k 0 ≡ 8 * g → get_elem? s.views id ≡ some (core_view (core_log ts fs rs cs 0) no_caller)
    → Kept (stepped s k (8 * g + 1) id [] (core_view (core_log (ts ++ ticket k g ∷ []) fs rs cs 0) no_caller) keeps)
arms_kept s id k g ts fs rs cs taker r inside is seat = let t₀ : Ticket = ticket k g in let n : ℕ = 8 * g + 1 in let log' : CoreLog = core_log (ts ++ t₀ ∷ []) fs rs cs 0 in let wide = r.wide in
    let now : get_or (set s.words k n) k 0 ≡ n = get_or-set_same s.words k n 0 (omega arith) in
    let up = grows s.words k n (omega arith) (omega arith) in let cell = r.each_cell k inside in let small = cell.small in (
      id,
      log',
      taker,
      record {
        wide = length-set s.words k n ∙ r.wide;
        each_cell = λ j near. dite (ℕ_discrete j k)
            (λ e. subst (λ (x : ℕ). CellOk log' x (get_or (set s.words k n) x 0) (get_elem? s.homes x)) (sym e) (subst (λ (n' : ℕ). CellOk log' k n' (get_elem? s.homes k)) (sym now) record {
              free = λ h at. absurd (omega arith);
              waiting = λ h at _. (cell.free g is).1;
              done = λ h at. absurd (omega arith);
              empty = λ h at. absurd (omega arith);
              given = λ h at _. absurd (omega arith);
              state = λ h le. omega arith;
              held = λ e'. absurd (omega arith);
              armed = λ h le. dite (ℕ_discrete g h) (λ e'. subst (λ (y : ℕ). Has (ts ++ t₀ ∷ []) (ticket k y)) e' (has_last ts t₀)) (λ ne. has_snoc ts (ticket k h) t₀ (cell.armed h (omega arith)));
              past = λ h le. cell.past h (omega arith);
              small = omega arith;
            }))
            (λ ne. subst (λ (n' : ℕ). CellOk log' j n' (get_elem? s.homes j)) (sym (get_or-set_other s.words k j n 0 ne)) (let c = r.each_cell j near in record {
              free = c.free;
              waiting = c.waiting;
              done = c.done;
              empty = c.empty;
              given = c.given;
              state = c.state;
              held = c.held;
              armed = λ h le. has_snoc ts (ticket j h) t₀ (c.armed h le);
              past = c.past;
              small = c.small;
            }));
        each_arm = λ i t at. ⊎_elim (λ was. let o = r.each_arm i t was in let a = up t.cell in let b = o.1 in (o.0, omega arith))
            (λ (is' : t₀ ≡ t). subst (λ (x : Ticket). ArmOk (set s.words k n) (length s.homes) x) is' (inside, omega arith)) (at_snoc ts t₀ t i at);
        each_fill = λ i e at. let o = r.each_fill i e at in let a = up e.0.cell in omega arith;
        each_cycle = λ i t at. let o = r.each_cycle i t at in let a = up t.cell in omega arith;
        each_wait = λ t has un. ⊎_elim (λ was. wait_stays s.words s.views k n id _ _ t (omega arith) (omega arith) seat (λ t' h. h) (λ e w. absurd (omega arith)) (r.each_wait t (has.0, was) un))
            (λ (is' : t₀ ≡ t). inl (subst (λ (x : Ticket). get_or (set s.words k n) x.cell 0 ≡ 8 * x.generation + 1) is' now)) (at_snoc ts t₀ t has.0 has.1);
        each_refusal = λ i t h. given_stays s.views id _ _ t seat (λ t' x. x) (r.each_refusal i t h);
        each_seat = seats_stay (SeatOk id log' taker (set s.words k n)) s.views id (core_view log' no_caller) (core_ok id log' taker (set s.words k n))
            (λ j v other at. others_know id (core_log ts fs rs cs 0) taker s.words k n id log' taker (omega arith) (omega arith) (λ e h. h) (inl refl) (λ c h _. refl) (λ h at'. absurd (omega arith)) (λ t le un. un) j v other (r.each_seat j v at));
      },
    )

-- what the core learns of a cell that it arms
pub untouched_now : (s : Table) (id k g : ℕ) (ts : List Ticket) (fs : List Entry) (rs cs : List Ticket) (taker : Takers) → KeptAt id (core_log ts fs rs cs 0) taker s → get_or s.words k 0 ≡ 8 * g → IsUntouched fs rs cs (ticket k g)
untouched_now s id k g ts fs rs cs taker r is = (
  (λ o h. let f : 8 * g + 2 ≤ get_or s.words k 0 = r.each_fill h.0 (ticket k g, o) h.1 in absurd (omega arith)),
  (λ h. let p = r.each_refusal h.0 (ticket k g) h.1 in let q : 8 * g + 5 ≤ get_or s.words k 0 = ((r.each_seat p.0 p.1 p.2).gives p.3.0 (ticket k g) p.3.1).1 in absurd (omega arith)),
  λ h. let o : 8 * g + 8 ≤ get_or s.words k 0 = r.each_cycle h.0 (ticket k g) h.1 in absurd (omega arith),
)

-- the core alone arms a free cell, so it is still free
pub arms_as : (slots id k g new : ℕ) (m : Sat) (ts : List Ticket) (fs : List Entry) (rs cs : List Ticket) → m ≡ core_sat ts fs rs cs 0 [] → k < slots → IsNext ts cs k g → new ≡ 8 * g + 1
    → Allows Kept slots id m k (λ _. new) (λ _. armed (step slots k new 0 maybe.none) m new)
arms_as slots id k g new m ts fs rs cs is inside next one = subst (λ (x : Sat). Allows Kept slots id x k (λ _. new) (λ _. armed (step slots k new 0 maybe.none) x new)) (sym is) (λ s r long at _.
    let f = found s r id (core_log ts fs rs cs 0) no_caller at in let c = f.1.each_cell k (omega arith) in let n : ℕ = get_or s.words k 0 in
    let low : n ≤ 8 * g = dite (dec_le n (8 * g)) (λ l. l) (λ l. absurd (next.0 (c.armed g (omega arith)))) in
    let high : 8 * g ≤ n = dite (ℕ_discrete g 0) (λ z. omega arith) (λ nz. let p = next.1 (g - 1) (omega arith) in let o = f.1.each_cycle p.0 (ticket k (g - 1)) p.1 in omega arith) in
    let w : View = core_view (core_log (ts ++ ticket k g ∷ []) fs rs cs 0) no_caller in (
      w,
      keeps,
      tt,
      subst (λ (x : ℕ). Kept (stepped s k x id [] w keeps)) (sym one) (arms_kept s id k g ts fs rs cs f.0 f.1 (omega arith) (omega arith) at),
      λ h e. let same : g ≡ h = omega arith in (untouched_now s id k h ts fs rs cs f.0 f.1 (omega arith), λ i. (core_view (core_log (ts ++ ticket k (same i) ∷ []) fs rs cs 0) no_caller, [])),
    ))

-- recycle
abbrev pub Ends : ℕ → ℕ → Type 0
Ends g n = (n ≡ 8 * g + 4) ⊎ (n ≡ 8 * g + 5)

pub ends_by : (n : ℕ) → 4 ≤ n % 8 → n % 8 ≤ 5 → Ends (n / 8) n
ends_by n low high = dite (ℕ_discrete (n % 8) 4) (λ e. inl (omega arith)) (λ ne. inr (omega arith))

pub ends_low : (g n : ℕ) → Ends g n → 8 * g + 4 ≤ n
ends_low g n e = ⊎_elim (λ (a : n ≡ 8 * g + 4). omega arith) (λ (a : n ≡ 8 * g + 5). omega arith) e

pub ends_high : (g n : ℕ) → Ends g n → n ≤ 8 * g + 5
ends_high g n e = ⊎_elim (λ (a : n ≡ 8 * g + 4). omega arith) (λ (a : n ≡ 8 * g + 5). omega arith) e

pub recycles_kept : (s : Table) (id k g : ℕ) (ts : List Ticket) (fs : List Entry) (rs cs : List Ticket) (taker : Takers) → KeptAt id (core_log ts fs rs cs 0) taker s → k < length s.homes → Ends g (get_or s.words k 0) → g < 4294967295 → get_elem? s.views id ≡ some (core_view (core_log ts fs rs cs 0) no_caller)
    → Kept (stepped s k (8 * g + 8) id [] (core_view (core_log ts fs rs (cs ++ ticket k g ∷ []) 0) no_caller) keeps)
recycles_kept s id k g ts fs rs cs taker r inside is low seat = let least = ends_low g _ is in let most = ends_high g _ is in let t₀ : Ticket = ticket k g in let n : ℕ = 8 * g + 8 in let log' : CoreLog = core_log ts fs rs (cs ++ t₀ ∷ []) 0 in let wide = r.wide in
    let now : get_or (set s.words k n) k 0 ≡ n = get_or-set_same s.words k n 0 (omega arith) in
    let up = grows s.words k n (omega arith) (omega arith) in let cell = r.each_cell k inside in (
      id,
      log',
      taker,
      record {
        wide = length-set s.words k n ∙ r.wide;
        each_cell = λ j near. dite (ℕ_discrete j k)
            (λ e. subst (λ (x : ℕ). CellOk log' x (get_or (set s.words k n) x 0) (get_elem? s.homes x)) (sym e) (subst (λ (n' : ℕ). CellOk log' k n' (get_elem? s.homes k)) (sym now) record {
              free = λ h at. ((λ e'. absurd (omega arith)), ⊎_elim (λ (a : get_or s.words k 0 ≡ 8 * g + 4). cell.empty g a) (λ (a : get_or s.words k 0 ≡ 8 * g + 5). cell.given g a (λ e'. absurd (omega arith))) is);
              waiting = λ h at _. absurd (omega arith);
              done = λ h at. absurd (omega arith);
              empty = λ h at. absurd (omega arith);
              given = λ h at _. absurd (omega arith);
              state = λ h le. omega arith;
              held = λ e'. absurd (omega arith);
              armed = λ h le. cell.armed h (omega arith);
              past = λ h le. dite (ℕ_discrete g h) (λ e'. subst (λ (y : ℕ). Has (cs ++ t₀ ∷ []) (ticket k y)) e' (has_last cs t₀)) (λ ne. has_snoc cs (ticket k h) t₀ (cell.past h (omega arith)));
              small = omega arith;
            }))
            (λ ne. subst (λ (n' : ℕ). CellOk log' j n' (get_elem? s.homes j)) (sym (get_or-set_other s.words k j n 0 ne)) (let c = r.each_cell j near in record {
              free = c.free;
              waiting = c.waiting;
              done = c.done;
              empty = c.empty;
              given = c.given;
              state = c.state;
              held = c.held;
              armed = c.armed;
              past = λ h le. has_snoc cs (ticket j h) t₀ (c.past h le);
              small = c.small;
            }));
        each_arm = λ i t at. let o = r.each_arm i t at in let a = up t.cell in let b = o.1 in (o.0, omega arith);
        each_fill = λ i e at. let o = r.each_fill i e at in let a = up e.0.cell in omega arith;
        each_cycle = λ i t at. ⊎_elim (λ was. let o = r.each_cycle i t was in let a = up t.cell in omega arith)
            (λ (is' : t₀ ≡ t). subst (λ (x : Ticket). 8 * x.generation + 8 ≤ get_or (set s.words k n) x.cell 0) is' (omega arith)) (at_snoc cs t₀ t i at);
        each_wait = λ t has un. wait_stays s.words s.views k n id _ _ t (omega arith) (omega arith) seat (λ t' h. h) (λ e w. absurd (omega arith)) (r.each_wait t has un);
        each_refusal = λ i t h. given_stays s.views id _ _ t seat (λ t' x. x) (r.each_refusal i t h);
        each_seat = seats_stay (SeatOk id log' taker (set s.words k n)) s.views id (core_view log' no_caller) (core_ok id log' taker (set s.words k n))
            (λ j v other at. others_know id (core_log ts fs rs cs 0) taker s.words k n id log' taker (omega arith) (omega arith) (λ e h. h) (inl refl) (λ c h _. refl) (λ h at'. absurd (omega arith)) (λ t le un. un) j v other (r.each_seat j v at));
      },
    )

-- what the core learns of a cell that it frees
pub frees_now : (s : Table) (id k g : ℕ) (ts : List Ticket) (fs : List Entry) (rs cs : List Ticket) (taker : Takers) → KeptAt id (core_log ts fs rs cs 0) taker s → k < length s.homes → Ends g (get_or s.words k 0) → (h : ℕ) → g ≡ h → Frees ts cs k h
frees_now s id k g ts fs rs cs taker r inside is h same = let least = ends_low g _ is in let most = ends_high g _ is in let c = r.each_cell k inside in let t₀ : Ticket = ticket k h in (
  (λ j le. c.armed j (omega arith)),
  (λ y. let o = r.each_cycle y.0 (ticket k h) y.1 in absurd (omega arith)),
  (
    (λ y. let o = (r.each_arm y.0 (ticket k (h + 1)) y.1).1 in absurd (omega arith)),
    λ j l. dite (ℕ_discrete h j) (λ e. subst (λ (y : ℕ). Has (cs ++ t₀ ∷ []) (ticket k y)) e (has_last cs t₀)) (λ ne. has_snoc cs (ticket k j) t₀ (c.past j (omega arith))),
  ),
)

pub recycles_as : (slots id k g first second : ℕ) (m : Sat) (ts : List Ticket) (fs : List Entry) (rs cs : List Ticket) → m ≡ core_sat ts fs rs cs 0 [] → k < slots → Ends g first → second ≡ 8 * g + 8 → g < 4294967295
    → Allows Kept slots id m k (λ n. either (eqb n first) second n) (recycled (step slots k first second maybe.none) m)
recycles_as slots id k g first second m ts fs rs cs is inside one two low = subst (λ (x : Sat). Allows Kept slots id x k (λ n. either (eqb n first) second n) (recycled (step slots k first second maybe.none) x)) (sym is) (λ s r long at _.
    let v : View = core_view (core_log ts fs rs cs 0) no_caller in let f = found s r id (core_log ts fs rs cs 0) no_caller at in let n : ℕ = get_or s.words k 0 in let m' : Sat = core_sat ts fs rs cs 0 [] in
    exchanged n first second (λ x. (v : View) × (a : Act Slot) × Valid s.homes m'.1 a × Kept (stepped s k x id m'.1 v a) × recycled (step slots k first second maybe.none) m' n (v, carried_after m'.1 a))
    (λ hit. let c = f.1.each_cell k (omega arith) in let w : View = core_view (core_log ts fs rs (cs ++ ticket k g ∷ []) 0) no_caller in (
      w,
      keeps,
      tt,
      subst (λ (x : ℕ). Kept (stepped s k x id [] w keeps)) (sym two) (recycles_kept s id k g ts fs rs cs f.0 f.1 (omega arith) (subst (Ends g) (sym hit) one) low at),
      λ h e. let l = ends_low g _ one in let m = ends_high g _ one in let l' = ends_low h _ e in let m' = ends_high h _ e in let same : g ≡ h = omega arith in ((λ _. (frees_now s id k g ts fs rs cs f.0 f.1 (omega arith) (subst (Ends g) (sym hit) one) h same, λ i. (core_view (core_log ts fs rs (cs ++ ticket k (same i) ∷ []) 0) no_caller, []))), λ miss. absurd (miss hit)),
    ))
    (λ miss. (v, keeps, tt, still s r k id [] v at, λ h e. ((λ hit. absurd (miss hit)), λ _. refl))))
