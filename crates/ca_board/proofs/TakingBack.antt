-- The core takes back a ticket that nobody has used.
use Rattle.std.proofs.Common.{◌≡◌, ◌⊎◌, ℕ, ◌+◌, ◌*◌, ◌<◌, ◌≤◌, List, [], ◌∷◌, ◌++◌, length, set, get_or, inl, inr, refl, sym, ap, ◌∙◌, subst, ⊎_elim, arith, length-set, get_or-set_other, get_or-set_same, None}
use mathlib.Core.Logic.{dite}
use mathlib.Core.Option.{some, some-ne-none}
use mathlib.Core.Option as maybe
use native.Mathlib.Decide.{ℕ_discrete, dec_le}
use lib.ListN.{get_elem?}
use Rattle.atomic_table.specs.Table.{step, keeps, stepped, Allows}
use Rattle.atomic_table.proofs.Lists.{at_snoc, set_here}
use Rattle.ca_board.proofs.Stock.{at_inside, has_snoc, has_last}
use Rattle.ca_board.specs.declared.ticket.Ticket.{Ticket}
use Rattle.ca_board.specs.declared.steps.CoreLog.{CoreLog}
use Rattle.ca_board.specs.declared.steps.View.{View}
use Rattle.ca_board.specs.History.{ticket, Has, Entry, Table, Sat, core_log, no_caller, core_view, CellOk, GiveOk, IsGivenUp, IsUnfilled, SeatOk, KeptAt, Kept, Frees, back_too, core_part, taken_back}
use Rattle.ca_board.proofs.Rule.{Takers, grows, others_know, seats_stay, More, given_stays, wait_stays, no_takes, no_tickets, found, core_sat}
use Rattle.ca_board.proofs.Meeting.{met_view}

-- the word of a cell whose ticket nobody has used: it waits, or was given up
abbrev pub IsUnused : ℕ → ℕ → Type 0
IsUnused g n = (n ≡ 8 * g + 1) ⊎ (n ≡ 8 * g + 5)

unused_low : (g n : ℕ) → IsUnused g n → 8 * g + 1 ≤ n
unused_low g n u = ⊎_elim (λ (a : n ≡ 8 * g + 1). omega arith) (λ (a : n ≡ 8 * g + 5). omega arith) u

unused_high : (g n : ℕ) → IsUnused g n → n ≤ 8 * g + 5
unused_high g n u = ⊎_elim (λ (a : n ≡ 8 * g + 1). omega arith) (λ (a : n ≡ 8 * g + 5). omega arith) u

unused_untaken : (g n h : ℕ) → IsUnused g n → n ≡ 8 * h + 3 → ⊥
unused_untaken g n h u e = ⊎_elim (λ (a : n ≡ 8 * g + 1). absurd (omega arith)) (λ (a : n ≡ 8 * g + 5). absurd (omega arith)) u

-- the one give-up of the part that is split off
one_give : (t u : Ticket) (i : ℕ) → get_elem? (t ∷ []) i ≡ some u → t ≡ u
one_give t u i at = ⊎_elim (λ was. no_tickets i u was) (λ (is : t ≡ u). is) (at_snoc [] t u i at)

-- The word becomes that of a give-up, at c = 0, or that of the next generation, at c = 1
pub backs_kept : (s : Table) (id k g c : ℕ) (ts : List Ticket) (fs : List Entry) (rs cs cs' : List Ticket) (taker : Takers) → KeptAt id (core_log ts fs rs cs 0) taker s → k < length s.homes → get_elem? s.views id ≡ some (core_view (core_log ts fs rs cs 0) no_caller) → IsUnused g (get_or s.words k 0) → IsUnfilled fs (ticket k g) → c ≤ 1 → g + c ≤ 4294967295
    → ((u : Ticket) → Has cs u → Has cs' u) → (1 ≤ c → Has cs' (ticket k g)) → ((u : Ticket) → Has cs' u → Has cs u ⊎ ((ticket k g ≡ u) × (1 ≤ c)))
    → Kept (stepped s k (8 * g + (5 + 3 * c)) id [] (met_view ts fs [] (ticket k g ∷ []) (rs ++ ticket k g ∷ []) cs' []) keeps)
backs_kept s id k g c ts fs rs cs cs' taker r inside seat unused un small below grew freed came =
    let t₀ : Ticket = ticket k g in let n : ℕ = 8 * g + (5 + 3 * c) in let rs' : List Ticket = rs ++ t₀ ∷ [] in let log' : CoreLog = core_log ts fs rs' cs' 0 in let w : View = met_view ts fs [] (t₀ ∷ []) rs' cs' [] in let v : View = core_view (core_log ts fs rs cs 0) no_caller in
    let wide = r.wide in let least = unused_low g _ unused in let most = unused_high g _ unused in
    let now : get_or (set s.words k n) k 0 ≡ n = get_or-set_same s.words k n 0 (omega arith) in
    let up = grows s.words k n (omega arith) (omega arith) in let cell = r.each_cell k inside in
    let home : get_elem? s.homes k ≡ some (some None) = ⊎_elim
    (λ (a : get_or s.words k 0 ≡ 8 * g + 1). cell.waiting g a (λ e'. absurd (omega arith)))
    (λ (a : get_or s.words k 0 ≡ 8 * g + 5). cell.given g a (λ e'. absurd (omega arith))) unused in
    let more : More v w = λ t h. no_tickets h.0 t h.1 in
    let mine : IsGivenUp (set s.views id w) t₀ = (id, w, set_here s.views id w (at_inside s.views id v seat), (0, refl)) in (
      id,
      log',
      taker,
      record {
        wide = length-set s.words k n ∙ r.wide;
        each_cell = λ j near. dite (ℕ_discrete j k)
            (λ e. subst (λ (x : ℕ). CellOk log' x (get_or (set s.words k n) x 0) (get_elem? s.homes x)) (sym e) (subst (λ (n' : ℕ). CellOk log' k n' (get_elem? s.homes k)) (sym now) record {
              free = λ h at. ((λ e'. absurd (omega arith)), home);
              waiting = λ h at _. absurd (omega arith);
              done = λ h at. absurd (omega arith);
              empty = λ h at. absurd (omega arith);
              given = λ h at _. home;
              state = λ h le. omega arith;
              held = λ e'. absurd (omega arith);
              armed = λ h le. cell.armed h (omega arith);
              past = λ h le. dite (ℕ_discrete g h) (λ e'. subst (λ (y : ℕ). Has cs' (ticket k y)) e' (freed (omega arith))) (λ ne. grew (ticket k h) (cell.past h (omega arith)));
              small = omega arith;
            }))
            (λ ne. subst (λ (n' : ℕ). CellOk log' j n' (get_elem? s.homes j)) (sym (get_or-set_other s.words k j n 0 ne)) (let d = r.each_cell j near in record {
              free = d.free;
              waiting = d.waiting;
              done = d.done;
              empty = d.empty;
              given = d.given;
              state = d.state;
              held = d.held;
              armed = d.armed;
              past = λ h le. grew (ticket j h) (d.past h le);
              small = d.small;
            }));
        each_arm = λ i t at. let o = r.each_arm i t at in let a = up t.cell in let b = o.1 in (o.0, omega arith);
        each_fill = λ i e at. let o = r.each_fill i e at in let a = up e.0.cell in omega arith;
        each_cycle = λ i t at. ⊎_elim
            (λ (was : Has cs t). let o = r.each_cycle was.0 t was.1 in let a = up t.cell in omega arith)
            (λ (is : (t₀ ≡ t) × (1 ≤ c)). let b = is.1 in subst (λ (x : Ticket). 8 * x.generation + 8 ≤ get_or (set s.words k n) x.cell 0) is.0 (omega arith)) (came t (i, at));
        each_wait = λ t has nf. let o = r.each_wait t has nf in dite (ℕ_discrete t.cell k)
            (λ e. let q : get_or s.words t.cell 0 ≡ get_or s.words k 0 = ap (λ x. get_or s.words x 0) e in let q' : get_or (set s.words k n) t.cell 0 ≡ get_or (set s.words k n) k 0 = ap (λ x. get_or (set s.words k n) x 0) e in ⊎_elim
            (λ (left : get_or s.words t.cell 0 ≡ 8 * t.generation + 1). let same : g ≡ t.generation = omega arith in
            inr (omega arith, subst (IsGivenUp (set s.views id w)) (λ i. ticket (sym e i) (same i)) mine))
            (λ (right : (8 * t.generation + 5 ≤ get_or s.words t.cell 0) × IsGivenUp s.views t). let l = right.0 in inr (omega arith, given_stays s.views id v w t seat more right.1))
            o)
            (λ ne. wait_stays s.words s.views k n id v w t (omega arith) (omega arith) seat more (λ e. absurd (ne e)) o);
        each_refusal = λ i t h. ⊎_elim (λ was. given_stays s.views id v w t seat more (r.each_refusal i t was))
            (λ (is : t₀ ≡ t). subst (IsGivenUp (set s.views id w)) is mine) (at_snoc rs t₀ t i h);
        each_seat = seats_stay (SeatOk id log' taker (set s.words k n)) s.views id w record {
          core = λ _. (refl, refl);
          takes = λ i e at. no_takes i e at;
          gives = λ i t at. subst (λ (x : Ticket). GiveOk log' (set s.words k n) x) (one_give t₀ t i at) (un, omega arith);
          seen = λ i x at. absurd (some-ne-none x (sym at));
          hand = λ k' is. absurd (omega arith);
        }
            (λ j v' other at. others_know id (core_log ts fs rs cs 0) taker s.words k n id log' taker (omega arith) (omega arith) (λ e h. h) (inl refl) (λ c' h _. refl) (λ h at'. absurd (unused_untaken g _ h unused at')) (λ t le nf. nf) j v' other (r.each_seat j v' at));
      },
    )

-- what the core knows of a ticket's cell, by the ticket: it was armed, has no fill, and
-- its cell was not freed
unused_now : (s : Table) (id k g : ℕ) (ts : List Ticket) (fs : List Entry) (rs cs : List Ticket) (taker : Takers) → KeptAt id (core_log ts fs rs cs 0) taker s → k < length s.homes → Has ts (ticket k g) → IsUnfilled fs (ticket k g) → ¬ (Has cs (ticket k g)) → IsUnused g (get_or s.words k 0)
unused_now s id k g ts fs rs cs taker r inside has un kept = let n : ℕ = get_or s.words k 0 in let cell = r.each_cell k inside in
    let high : n ≤ 8 * g + 5 = dite (dec_le n (8 * g + 5)) (λ l. l) (λ l. let over = cell.state g (omega arith) in absurd (kept (cell.past g (omega arith)))) in ⊎_elim
    (λ (a : n ≡ 8 * g + 1). inl a)
    (λ (a : (8 * g + 5 ≤ n) × IsGivenUp s.views (ticket k g)). let low = a.0 in inr (omega arith))
    (r.each_wait (ticket k g) has un)

-- what it learns of a cell that it frees so
frees_back : (s : Table) (id k g : ℕ) (ts : List Ticket) (fs : List Entry) (rs cs : List Ticket) (taker : Takers) → KeptAt id (core_log ts fs rs cs 0) taker s → k < length s.homes → IsUnused g (get_or s.words k 0) → ¬ (Has cs (ticket k g)) → Frees ts cs k g
frees_back s id k g ts fs rs cs taker r inside unused kept = let least = unused_low g _ unused in let most = unused_high g _ unused in let c = r.each_cell k inside in let t₀ : Ticket = ticket k g in (
  (λ j le. c.armed j (omega arith)),
  kept,
  (
    (λ y. let o = (r.each_arm y.0 (ticket k (g + 1)) y.1).1 in absurd (omega arith)),
    λ j l. dite (ℕ_discrete g j) (λ e. subst (λ (y : ℕ). Has (cs ++ t₀ ∷ []) (ticket k y)) e (has_last cs t₀)) (λ ne. has_snoc cs (ticket k j) t₀ (c.past j (omega arith))),
  ),
)

-- the cell is free for its next generation
pub frees_as : (slots id k g new : ℕ) (m : Sat) (ts : List Ticket) (fs : List Entry) (rs cs : List Ticket) → m ≡ core_sat ts fs rs cs 0 [] → k < slots → Has ts (ticket k g) → IsUnfilled fs (ticket k g) → ¬ (Has cs (ticket k g)) → g < 4294967295 → new ≡ 8 * g + 8
    → Allows Kept slots id m k (λ _. new) (λ _. taken_back (step slots k new 0 maybe.none) m new)
frees_as slots id k g new m ts fs rs cs is inside has un kept below one = subst (λ (x : Sat). Allows Kept slots id x k (λ _. new) (λ _. taken_back (step slots k new 0 maybe.none) x new)) (sym is) (λ s r long at _.
    let f = found s r id (core_log ts fs rs cs 0) no_caller at in let t₀ : Ticket = ticket k g in let cs' : List Ticket = cs ++ t₀ ∷ [] in let w : View = met_view ts fs [] (t₀ ∷ []) (rs ++ t₀ ∷ []) cs' [] in
    let unused = unused_now s id k g ts fs rs cs f.0 f.1 (omega arith) has un kept in
    let frees = frees_back s id k g ts fs rs cs f.0 f.1 (omega arith) unused kept in (
      w,
      keeps,
      tt,
      subst (λ (x : ℕ). Kept (stepped s k x id [] w keeps)) {x = 8 * g + (5 + 3 * 1)} {y = new} (omega arith)
          (backs_kept s id k g 1 ts fs rs cs cs' f.0 f.1 (omega arith) at unused un (omega arith) (omega arith) (λ u h. has_snoc cs u t₀ h) (λ _. has_last cs t₀)
          (λ u h. ⊎_elim (λ was. inl (h.0, was)) (λ (e : t₀ ≡ u). inr (e, omega arith)) (at_snoc cs t₀ u h.0 h.1))),
      λ h. (
        (λ e. let same : g ≡ h = omega arith in subst (λ (y : ℕ). Frees ts cs k y × (Path Sat (w, []) (met_view ts fs [] (ticket k y ∷ []) (rs ++ ticket k y ∷ []) (cs ++ ticket k y ∷ []) [], []))) same (frees, refl)),
        λ e. absurd (omega arith),
      ),
    ))

-- at its last generation the cell stays given up
pub ends_as : (slots id k g new : ℕ) (m : Sat) (ts : List Ticket) (fs : List Entry) (rs cs : List Ticket) → m ≡ core_sat ts fs rs cs 0 [] → k < slots → Has ts (ticket k g) → IsUnfilled fs (ticket k g) → ¬ (Has cs (ticket k g)) → new ≡ 8 * g + 5
    → Allows Kept slots id m k (λ _. new) (λ _. taken_back (step slots k new 0 maybe.none) m new)
ends_as slots id k g new m ts fs rs cs is inside has un kept one = subst (λ (x : Sat). Allows Kept slots id x k (λ _. new) (λ _. taken_back (step slots k new 0 maybe.none) x new)) (sym is) (λ s r long at _.
    let f = found s r id (core_log ts fs rs cs 0) no_caller at in let t₀ : Ticket = ticket k g in let w : View = met_view ts fs [] (t₀ ∷ []) (rs ++ t₀ ∷ []) cs [] in
    let unused = unused_now s id k g ts fs rs cs f.0 f.1 (omega arith) has un kept in let least = unused_low g _ unused in let small = (f.1.each_cell k (omega arith)).small in (
      w,
      keeps,
      tt,
      subst (λ (x : ℕ). Kept (stepped s k x id [] w keeps)) {x = 8 * g + (5 + 3 * 0)} {y = new} (omega arith)
          (backs_kept s id k g 0 ts fs rs cs cs f.0 f.1 (omega arith) at unused un (omega arith) (omega arith) (λ u h. h) (λ l. absurd (omega arith)) (λ u h. inl h)),
      λ h. (
        (λ e. absurd (omega arith)),
        λ e. let same : g ≡ h = omega arith in subst (λ (y : ℕ). Path Sat (w, []) (met_view ts fs [] (ticket k y ∷ []) (rs ++ ticket k y ∷ []) cs [], [])) same refl,
      ),
    ))

-- the core's seat after the store, and after the give-up is split off
pub ended_back : (m m' : Sat) (ts : List Ticket) (fs : List Entry) (rs cs : List Ticket) (t : Ticket) → m ≡ core_sat ts fs rs cs 0 [] → m' ≡ (back_too m.0 t m.0.core.recycles, m.1) → m' ≡ (met_view ts fs [] (t ∷ []) (rs ++ t ∷ []) cs [], [])
ended_back m m' ts fs rs cs t e e' = e' ∙ ap (λ (x : Sat). (back_too x.0 t x.0.core.recycles, x.1)) e

pub freed_back : (m m' : Sat) (ts : List Ticket) (fs : List Entry) (rs cs : List Ticket) (t : Ticket) → m ≡ core_sat ts fs rs cs 0 [] → m' ≡ (back_too m.0 t (m.0.core.recycles ++ t ∷ []), m.1) → m' ≡ (met_view ts fs [] (t ∷ []) (rs ++ t ∷ []) (cs ++ t ∷ []) [], [])
freed_back m m' ts fs rs cs t e e' = e' ∙ ap (λ (x : Sat). (back_too x.0 t (x.0.core.recycles ++ t ∷ []), x.1)) e

pub parted_back : (m m' : Sat) (ts : List Ticket) (fs : List Entry) (gs rs cs : List Ticket) → m ≡ (met_view ts fs [] gs rs cs [], []) → m' ≡ (core_part m.0, m.1) → m' ≡ core_sat ts fs rs cs 0 []
parted_back m m' ts fs gs rs cs e e' = e' ∙ ap (λ (x : Sat). (core_part x.0, x.1)) e
