-- The core fills a cell.
use Rattle.std.proofs.Common.{◌≡◌, ◌≢◌, ℕ, suc, ◌+◌, ◌*◌, ◌/◌, ◌%◌, ◌<◌, ◌≤◌, List, [], ◌∷◌, ◌++◌, length, set, get_or, Some, None, true≢false, eqb, inl, refl, sym, ap, ◌∙◌, subst, ⊎_elim, arith, length-set, get_or-set_other, get_or-set_same}
use Rattle.std.specs.Option.{IsSome}
use mathlib.Core.Logic.{dite}
use mathlib.Core.Option.{some, some-ne-none, some-injective}
use mathlib.Core.Option as maybe
use native.Mathlib.Decide.{ℕ_discrete}
use lib.ListN.{get_elem?}
use lib.Seq.{set-get_or}
use prog.Atomic.{either}
use Rattle.atomic_table.specs.Table.{Act, step, keeps, takes, gives, stepped, Valid, carried_after, Allows}
use Rattle.atomic_table.proofs.Lists.{set_here, set_else, at_snoc, exchanged}
use Rattle.ca_board.proofs.Stock.{has_snoc, has_last}
use Rattle.ca_board.specs.declared.ticket.Ticket.{Ticket}
use Rattle.ca_dbr.specs.declared.value.Outcome.{Outcome}
use Rattle.ca_board.specs.declared.steps.CoreLog.{CoreLog}
use Rattle.ca_board.specs.declared.steps.View.{View}
use Rattle.ca_board.specs.History.{ticket, Has, Entry, Slot, Table, Sat, IsUnfilled, core_log, no_caller, core_view, CellOk, FillOk, IsGivenUp, WaitOk, SeatOk, KeptAt, Kept, grabbed, looked_at, filled, returned}
use Rattle.ca_board.proofs.Rule.{Takers, still, grows, others_know, seats_stay, given_stays, wait_stays, wait_same, found, core_sat, core_ok}

-- the core takes the slot of a waiting cell
pub grabs_kept : (s : Table) (id k g : ℕ) (ts : List Ticket) (fs : List Entry) (rs cs : List Ticket) (taker : Takers) → KeptAt id (core_log ts fs rs cs 0) taker s → k < length s.homes → get_or s.words k 0 ≡ 8 * g + 1 → get_elem? s.views id ≡ some (core_view (core_log ts fs rs cs 0) no_caller)
    → KeptAt id (core_log ts fs rs cs (suc k)) taker record { words = s.words; homes = set s.homes k maybe.none; views = set s.views id (core_view (core_log ts fs rs cs (suc k)) no_caller) }
grabs_kept s id k g ts fs rs cs taker r inside is seat = let log' : CoreLog = core_log ts fs rs cs (suc k) in let long = length-set s.homes k maybe.none in let wide = r.wide in let c = r.each_cell k inside in record {
  wide = r.wide ∙ sym long;
  each_cell = λ j near. dite (ℕ_discrete j k)
      (λ e. subst (λ (x : ℕ). CellOk log' x (get_or s.words x 0) (get_elem? (set s.homes k maybe.none) x)) (sym e) record {
        free = λ h at. absurd (omega arith);
        waiting = λ h at n. absurd (n refl);
        done = λ h at. absurd (omega arith);
        empty = λ h at. absurd (omega arith);
        given = λ h at _. absurd (omega arith);
        state = c.state;
        held = λ e' h at. absurd (omega arith);
        armed = c.armed;
        past = c.past;
        small = c.small;
      })
      (λ ne. subst (λ (h : maybe.Option (maybe.Option Slot)). CellOk log' j (get_or s.words j 0) h) (sym (set_else s.homes k j maybe.none ne)) (let d = r.each_cell j (omega arith) in record {
        free = λ h at. ((λ e. ne (omega arith)), (d.free h at).1);
        waiting = λ h at _. d.waiting h at (λ e. absurd (omega arith));
        done = d.done;
        empty = d.empty;
        given = λ h at _. d.given h at (λ e. absurd (omega arith));
        state = d.state;
        held = λ e'. absurd (ne (omega arith));
        armed = d.armed;
        past = d.past;
        small = d.small;
      }));
  each_arm = λ i t at. let o = r.each_arm i t at in let a = o.0 in (omega arith, o.1);
  each_fill = r.each_fill;
  each_cycle = r.each_cycle;
  each_wait = λ t has un. wait_same s.words s.views id _ _ t seat (λ t' h. h) (r.each_wait t has un);
  each_refusal = λ i t h. given_stays s.views id _ _ t seat (λ t' x. x) (r.each_refusal i t h);
  each_seat = seats_stay (SeatOk id log' taker s.words) s.views id (core_view log' no_caller) (core_ok id log' taker s.words)
      (λ j v other at. let ok = r.each_seat j v at in record { core = λ y. absurd (other (ok.core y).0); takes = ok.takes; gives = ok.gives; seen = ok.seen; hand = ok.hand });
}

-- a ticket that does not wait was given up
pub given_now : (ws : List ℕ) (vs : List View) (t : Ticket) → WaitOk ws vs t → get_or ws t.cell 0 ≢ 8 * t.generation + 1 → (8 * t.generation + 5 ≤ get_or ws t.cell 0) × IsGivenUp vs t
given_now ws vs t o miss = ⊎_elim (λ (left : get_or ws t.cell 0 ≡ 8 * t.generation + 1). absurd (miss left)) (λ (right : (8 * t.generation + 5 ≤ get_or ws t.cell 0) × IsGivenUp vs t). right) o

-- a fill of a ticket that was given up changes the core's list of these alone
pub refuses_kept : (s : Table) (id : ℕ) (t₀ : Ticket) (hand : ℕ) (ts : List Ticket) (fs : List Entry) (rs cs : List Ticket) (taker : Takers) → KeptAt id (core_log ts fs rs cs hand) taker s → IsGivenUp s.views t₀ → get_elem? s.views id ≡ some (core_view (core_log ts fs rs cs hand) no_caller)
    → KeptAt id (core_log ts fs (rs ++ t₀ ∷ []) cs hand) taker record { words = s.words; homes = s.homes; views = set s.views id (core_view (core_log ts fs (rs ++ t₀ ∷ []) cs hand) no_caller) }
refuses_kept s id t₀ hand ts fs rs cs taker r gone seat = let log' : CoreLog = core_log ts fs (rs ++ t₀ ∷ []) cs hand in record {
  wide = r.wide;
  each_cell = λ j near. let d = r.each_cell j near in record {
    free = d.free;
    waiting = d.waiting;
    done = d.done;
    empty = d.empty;
    given = d.given;
    state = d.state;
    held = d.held;
    armed = d.armed;
    past = d.past;
    small = d.small;
  };
  each_arm = r.each_arm;
  each_fill = r.each_fill;
  each_cycle = r.each_cycle;
  each_wait = λ t has un. wait_same s.words s.views id _ _ t seat (λ t' h. h) (r.each_wait t has un);
  each_refusal = λ i t h. given_stays s.views id _ _ t seat (λ t' x. x) (⊎_elim (λ was. r.each_refusal i t was) (λ (is : t₀ ≡ t). subst (IsGivenUp s.views) is gone) (at_snoc rs t₀ t i h));
  each_seat = seats_stay (SeatOk id log' taker s.words) s.views id (core_view log' no_caller) (core_ok id log' taker s.words)
      (λ j v other at. let ok = r.each_seat j v at in record { core = λ y. absurd (other (ok.core y).0); takes = ok.takes; gives = ok.gives; seen = ok.seen; hand = ok.hand });
}

pub grabs_as : (slots id k g first second : ℕ) (m : Sat) (ts : List Ticket) (fs : List Entry) (rs cs : List Ticket) → m ≡ core_sat ts fs rs cs 0 [] → Has ts (ticket k g) → IsUnfilled fs (ticket k g) → first ≡ 8 * g + 1 → second ≡ 8 * g + 1
    → Allows Kept slots id m k (λ n. either (eqb n first) second n) (grabbed (step slots k first second maybe.none) m)
grabs_as slots id k g first second m ts fs rs cs is has un one two = subst (λ (x : Sat). Allows Kept slots id x k (λ n. either (eqb n first) second n) (grabbed (step slots k first second maybe.none) x)) (sym is) (λ s r long at _.
    let f = found s r id (core_log ts fs rs cs 0) no_caller at in let now = f.1.each_wait (ticket k g) has un in let inside = (f.1.each_arm has.0 (ticket k g) has.1).0 in let n : ℕ = get_or s.words k 0 in
    let m' : Sat = core_sat ts fs rs cs 0 [] in let w : View = core_view (core_log ts fs rs cs (suc k)) no_caller in let u : View = core_view (core_log ts fs (rs ++ ticket k g ∷ []) cs 0) no_caller in let c = f.1.each_cell k inside in
    exchanged n first second (λ x. (v : View) × (a : Act Slot) × Valid s.homes m'.1 a × Kept (stepped s k x id m'.1 v a) × grabbed (step slots k first second maybe.none) m' n (v, carried_after m'.1 a))
    (λ hit. (
      w,
      takes k None,
      c.waiting g (hit ∙ one) (λ e. absurd (omega arith)),
      subst (λ (ws : List ℕ). Kept record { words = ws; homes = set s.homes k maybe.none; views = set s.views id w }) (sym (set-get_or s.words k 0) ∙ ap (set s.words k) (hit ∙ (one ∙ sym two))) (id, core_log ts fs rs cs (suc k), f.0, grabs_kept s id k g ts fs rs cs f.0 f.1 inside (hit ∙ one) at),
      λ h e. ((λ _. refl), λ miss. absurd (miss hit)),
    ))
    (λ miss. let gone = given_now s.words s.views (ticket k g) now (λ e. miss (e ∙ sym one)) in (
      u,
      keeps,
      tt,
      subst (λ (ws : List ℕ). Kept record { words = ws; homes = s.homes; views = set s.views id u }) (sym (set-get_or s.words k 0)) (id, core_log ts fs (rs ++ ticket k g ∷ []) cs 0, f.0, refuses_kept s id (ticket k g) 0 ts fs rs cs f.0 f.1 gone.1 at),
      λ h e. let same : g ≡ h = omega arith in ((λ hit. absurd (miss hit)), λ _ i. (core_view (core_log ts fs (rs ++ ticket k (same i) ∷ []) cs 0) no_caller, [])),
    )))

-- the core takes the slot of a cell that waits, under whichever ticket
pub looks_as : (slots id k : ℕ) (m : Sat) (ts : List Ticket) (fs : List Entry) (rs cs : List Ticket) → m ≡ core_sat ts fs rs cs 0 [] → k < slots → Allows Kept slots id m k (λ n. n) (looked_at (step slots k 0 0 maybe.none) m)
looks_as slots id k m ts fs rs cs is near = subst (λ (x : Sat). Allows Kept slots id x k (λ n. n) (looked_at (step slots k 0 0 maybe.none) x)) (sym is) (λ s r long at _.
    let f = found s r id (core_log ts fs rs cs 0) no_caller at in let n : ℕ = get_or s.words k 0 in let m' : Sat = core_sat ts fs rs cs 0 [] in
    let v : View = core_view (core_log ts fs rs cs 0) no_caller in let w : View = core_view (core_log ts fs rs cs (suc k)) no_caller in let inside : k < length s.homes = omega arith in let c = f.1.each_cell k inside in
    dite (ℕ_discrete (n % 8) 1)
    (λ e. let hit : get_or s.words k 0 ≡ 8 * (n / 8) + 1 = omega arith in (
      w,
      takes k None,
      c.waiting (n / 8) hit (λ e'. absurd (omega arith)),
      subst (λ (ws : List ℕ). Kept record { words = ws; homes = set s.homes k maybe.none; views = set s.views id w }) (sym (set-get_or s.words k 0)) (id, core_log ts fs rs cs (suc k), f.0, grabs_kept s id k (n / 8) ts fs rs cs f.0 f.1 inside hit at),
      ((λ h e'. refl), λ miss. absurd (miss (n / 8) hit)),
    ))
    (λ ne. (
      v,
      keeps,
      tt,
      still s r k id [] v at,
      ((λ h e'. absurd (ne (omega arith))), λ miss. refl),
    )))

-- the value of the first slot
abbrev pub head_or : List (ℕ × Slot) → Slot
head_or [] = None
head_or (x ∷ xs) = x.1

pub unwrapped : Outcome → Slot → Outcome
unwrapped d None = d
unwrapped d (Some x) = x

pub some_out : (o p : Outcome) → Some o ≡ Some p → o ≡ p
unfolding unwrapped
some_out o p e = ap (unwrapped o) e

pub none_some : (o : Outcome) → Some o ≡ None → ⊥
none_some o e = true≢false (sym (subst (λ (x : Slot). IsSome x) e refl))

-- the fill
pub fills_kept : (s : Table) (id k g : ℕ) (ts : List Ticket) (fs : List Entry) (rs cs : List Ticket) (o : Outcome) (taker : Takers) → KeptAt id (core_log ts fs rs cs (suc k)) taker s → k < length s.homes → get_or s.words k 0 ≡ 8 * g + 1 → get_elem? s.views id ≡ some (core_view (core_log ts fs rs cs (suc k)) no_caller)
    → KeptAt id (core_log ts (fs ++ (ticket k g, o) ∷ []) rs cs 0) taker record { words = set s.words k (8 * g + 2); homes = set s.homes k (some (Some o)); views = set s.views id (core_view (core_log ts (fs ++ (ticket k g, o) ∷ []) rs cs 0) no_caller) }
fills_kept s id k g ts fs rs cs o taker r inside is seat = let fs' : List Entry = fs ++ (ticket k g, o) ∷ [] in let log' : CoreLog = core_log ts fs' rs cs 0 in let n : ℕ = 8 * g + 2 in let long = length-set s.homes k (some (Some o)) in let wide = r.wide in
    let c = r.each_cell k inside in let small = c.small in let even : get_or s.words k 0 < 34359738368 = c.small in let now : get_or (set s.words k n) k 0 ≡ n = get_or-set_same s.words k n 0 (omega arith) in let up = grows s.words k n (omega arith) (omega arith) in record {
      wide = length-set s.words k n ∙ (r.wide ∙ sym long);
      each_cell = λ j near. dite (ℕ_discrete j k)
          (λ e. subst (λ (x : ℕ). CellOk log' x (get_or (set s.words k n) x 0) (get_elem? (set s.homes k (some (Some o))) x)) (sym e) (subst (λ (y : ℕ). CellOk log' k y (get_elem? (set s.homes k (some (Some o))) k)) (sym now) record {
            free = λ h at. absurd (omega arith);
            waiting = λ h at _. absurd (omega arith);
            done = λ h at. let same : g ≡ h = omega arith in (o, set_here s.homes k (some (Some o)) inside, subst (λ (y : ℕ). Has fs' (ticket k y, o)) same (has_last fs (ticket k g, o)));
            empty = λ h at. absurd (omega arith);
            given = λ h at _. absurd (omega arith);
            state = λ h le. omega arith;
            held = λ e'. absurd (omega arith);
            armed = λ h le. c.armed h (omega arith);
            past = λ h le. c.past h (omega arith);
            small = omega arith;
          }))
          (λ ne. subst (λ (x : ℕ × maybe.Option (maybe.Option Slot)). CellOk log' j x.0 x.1) (λ i. (sym (get_or-set_other s.words k j n 0 ne) i, sym (set_else s.homes k j (some (Some o)) ne) i)) (let d = r.each_cell j (omega arith) in record {
            free = λ h at. ((λ e. absurd (omega arith)), (d.free h at).1);
            waiting = λ h at _. d.waiting h at (λ e. ne (omega arith));
            done = λ h at. let p = d.done h at in (p.0, p.1, has_snoc fs (ticket j h, p.0) (ticket k g, o) p.2);
            empty = d.empty;
            given = λ h at _. d.given h at (λ e. ne (omega arith));
            state = d.state;
            held = λ e'. absurd (omega arith);
            armed = d.armed;
            past = d.past;
            small = d.small;
          }));
      each_arm = λ i t at. let y = r.each_arm i t at in let a = y.0 in let b = y.1 in let u = up t.cell in (omega arith, omega arith);
      each_fill = λ i e at. ⊎_elim (λ was. let y = r.each_fill i e was in let u = up e.0.cell in omega arith)
          (λ (same : (ticket k g, o) ≡ e). subst (λ (x : Entry). FillOk (set s.words k n) x.0) same (let z = now in omega arith)) (at_snoc fs (ticket k g, o) e i at);
      each_cycle = λ i t h'. let y = r.each_cycle i t h' in let u = up t.cell in omega arith;
      each_wait = λ t has un. wait_stays s.words s.views k n id _ _ t (omega arith) (omega arith) seat (λ t' h. h)
          (λ e w. let same : g ≡ t.generation = omega arith in absurd (un o (subst (λ (x : Ticket). Has fs' (x, o)) (λ i. ticket (sym e i) (same i)) (has_last fs (ticket k g, o)))))
          (r.each_wait t has (λ z h. un z (has_snoc fs (t, z) (ticket k g, o) h)));
      each_refusal = λ i t h. given_stays s.views id _ _ t seat (λ t' x. x) (r.each_refusal i t h);
      each_seat = seats_stay (SeatOk id log' taker (set s.words k n)) s.views id (core_view log' no_caller) (core_ok id log' taker (set s.words k n))
          (λ j v other at. others_know id (core_log ts fs rs cs (suc k)) taker s.words k n id log' taker (omega arith) (omega arith) (λ e h. has_snoc fs e (ticket k g, o) h) (inl refl) (λ c g _. refl) (λ h at'. absurd (omega arith))
          (λ t le un z h. un z (⊎_elim (λ was. (h.0, was)) (λ (same : (ticket k g, o) ≡ (t, z)). let kk = ap (λ (x : Entry). x.0.cell) same in let gg = ap (λ (x : Entry). x.0.generation) same in let w : get_or s.words t.cell 0 ≡ get_or s.words k 0 = ap (λ x. get_or s.words x 0) (sym kk) in absurd (omega arith)) (at_snoc fs (ticket k g, o) (t, z) h.0 h.1))) j v other (r.each_seat j v at));
    }

pub fills_as : (slots id k g first second : ℕ) (m : Sat) (ts : List Ticket) (fs : List Entry) (rs cs : List Ticket) (o : Outcome) → m ≡ core_sat ts fs rs cs (suc k) ((k, Some o) ∷ []) → Has ts (ticket k g) → IsUnfilled fs (ticket k g) → first ≡ 8 * g + 1 → second ≡ 8 * g + 2
    → Allows Kept slots id m k (λ n. either (eqb n first) second n) (filled (step slots k first second maybe.none) m)
fills_as slots id k g first second m ts fs rs cs o is has un one two = subst (λ (x : Sat). Allows Kept slots id x k (λ n. either (eqb n first) second n) (filled (step slots k first second maybe.none) x)) (sym is) (λ s r long at _.
    let f = found s r id (core_log ts fs rs cs (suc k)) no_caller at in let now = f.1.each_wait (ticket k g) has un in let inside = (f.1.each_arm has.0 (ticket k g) has.1).0 in let n : ℕ = get_or s.words k 0 in
    let m' : Sat = core_sat ts fs rs cs (suc k) ((k, Some o) ∷ []) in let fs' : List Entry = fs ++ (ticket k g, o) ∷ [] in let w : View = core_view (core_log ts fs' rs cs 0) no_caller in
    exchanged n first second (λ x. (v : View) × (a : Act Slot) × Valid s.homes m'.1 a × Kept (stepped s k x id m'.1 v a) × filled (step slots k first second maybe.none) m' n (v, carried_after m'.1 a))
    (λ hit. (
      w,
      gives,
      tt,
      subst (λ (x : ℕ). Kept record { words = set s.words k x; homes = set s.homes k (some (Some o)); views = set s.views id w }) (sym two) (id, core_log ts fs' rs cs 0, f.0, fills_kept s id k g ts fs rs cs o f.0 f.1 inside (hit ∙ one) at),
      λ h p e q. let same : g ≡ h = omega arith in let like : Some o ≡ Some p = ap (λ (l : List (ℕ × Slot)). head_or l) q in
          ((λ _ i. (core_view (core_log ts (fs ++ (ticket k (same i), some_out o p like i) ∷ []) rs cs 0) no_caller, [])), λ miss. absurd (miss hit)),
    ))
    (λ miss. let gone = given_now s.words s.views (ticket k g) now (λ e. miss (e ∙ sym one)) in let u : View = core_view (core_log ts fs (rs ++ ticket k g ∷ []) cs (suc k)) no_caller in (
      u,
      keeps,
      tt,
      subst (λ (ws : List ℕ). Kept record { words = ws; homes = s.homes; views = set s.views id u }) (sym (set-get_or s.words k 0)) (id, core_log ts fs (rs ++ ticket k g ∷ []) cs (suc k), f.0, refuses_kept s id (ticket k g) (suc k) ts fs rs cs f.0 f.1 gone.1 at),
      λ h p e q. let same : g ≡ h = omega arith in ((λ hit. absurd (miss hit)), λ _ i. (core_view (core_log ts fs (rs ++ ticket k (same i) ∷ []) cs (suc k)) no_caller, (k, Some o) ∷ [])),
    )))

-- the core gives the slot back
pub returns_kept : (s : Table) (id k : ℕ) (ts : List Ticket) (fs : List Entry) (rs cs : List Ticket) (taker : Takers) → KeptAt id (core_log ts fs rs cs (suc k)) taker s → k < length s.homes → get_elem? s.views id ≡ some (core_view (core_log ts fs rs cs (suc k)) no_caller)
    → KeptAt id (core_log ts fs rs cs 0) taker record { words = s.words; homes = set s.homes k (some None); views = set s.views id (core_view (core_log ts fs rs cs 0) no_caller) }
returns_kept s id k ts fs rs cs taker r inside seat = let log' : CoreLog = core_log ts fs rs cs 0 in let long = length-set s.homes k (some None) in let wide = r.wide in let c = r.each_cell k inside in let here = set_here s.homes k (some None) inside in record {
  wide = r.wide ∙ sym long;
  each_cell = λ j near. dite (ℕ_discrete j k)
      (λ e. subst (λ (x : ℕ). CellOk log' x (get_or s.words x 0) (get_elem? (set s.homes k (some None)) x)) (sym e) record {
        free = λ h at. absurd ((c.free h at).0 refl);
        waiting = λ h at n. here;
        done = λ h at. absurd (c.held refl h at);
        empty = λ h at. here;
        given = λ h at n. here;
        state = c.state;
        held = λ e'. absurd (omega arith);
        armed = c.armed;
        past = c.past;
        small = c.small;
      })
      (λ ne. subst (λ (h : maybe.Option (maybe.Option Slot)). CellOk log' j (get_or s.words j 0) h) (sym (set_else s.homes k j (some None) ne)) (let d = r.each_cell j (omega arith) in record {
        free = λ h at. ((λ e. absurd (omega arith)), (d.free h at).1);
        waiting = λ h at _. d.waiting h at (λ e. ne (omega arith));
        done = d.done;
        empty = d.empty;
        given = λ h at _. d.given h at (λ e. ne (omega arith));
        state = d.state;
        held = λ e'. absurd (omega arith);
        armed = d.armed;
        past = d.past;
        small = d.small;
      }));
  each_arm = λ i t at. let o = r.each_arm i t at in let a = o.0 in (omega arith, o.1);
  each_fill = r.each_fill;
  each_cycle = r.each_cycle;
  each_wait = λ t has un. wait_same s.words s.views id _ _ t seat (λ t' h. h) (r.each_wait t has un);
  each_refusal = λ i t h. given_stays s.views id _ _ t seat (λ t' x. x) (r.each_refusal i t h);
  each_seat = seats_stay (SeatOk id log' taker s.words) s.views id (core_view log' no_caller) (core_ok id log' taker s.words)
      (λ j v other at. let ok = r.each_seat j v at in record { core = λ y. absurd (other (ok.core y).0); takes = ok.takes; gives = ok.gives; seen = ok.seen; hand = ok.hand });
}

pub returns_as : (slots id k : ℕ) (m : Sat) (ts : List Ticket) (fs : List Entry) (rs cs : List Ticket) → m ≡ core_sat ts fs rs cs (suc k) ((k, None) ∷ []) → k < slots
    → Allows Kept slots id m k (λ n. n) (returned (step slots k 0 0 maybe.none) m)
returns_as slots id k m ts fs rs cs is inside = subst (λ (x : Sat). Allows Kept slots id x k (λ n. n) (returned (step slots k 0 0 maybe.none) x)) (sym is) (λ s r long at _.
    let f = found s r id (core_log ts fs rs cs (suc k)) no_caller at in let w : View = core_view (core_log ts fs rs cs 0) no_caller in (
      w,
      gives,
      tt,
      subst (λ (ws : List ℕ). Kept record { words = ws; homes = set s.homes k (some None); views = set s.views id w }) (sym (set-get_or s.words k 0)) (id, core_log ts fs rs cs 0, f.0, returns_kept s id k ts fs rs cs f.0 f.1 (omega arith) at),
      refl,
    ))
