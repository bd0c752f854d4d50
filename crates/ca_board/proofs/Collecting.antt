-- A caller takes an outcome, hands the slot back, and gives up.
use Rattle.std.proofs.Common.{◌≡◌, ℕ, suc, ◌+◌, ◌*◌, ◌<◌, ◌≤◌, List, [], ◌∷◌, ◌++◌, length, set, get_or, Some, None, true, false, true≢false, eqb, inr, refl, sym, ap, ◌∙◌, subst, ⊎_elim, arith, length-set, get_or-set_other, get_or-set_same}
use mathlib.Core.Logic.{dite}
use mathlib.Core.Option.{some, some-ne-none, some-injective}
use mathlib.Core.Option as maybe
use native.Mathlib.Decide.{ℕ_discrete}
use lib.ListN.{get_elem?}
use lib.Seq.{set-get_or}
use prog.Atomic.{either}
use Rattle.atomic_table.specs.Table.{Act, step, keeps, takes, gives, stepped, Valid, carried_after, Allows}
use Rattle.atomic_table.proofs.Lists.{set_here, set_else, at_snoc, exchanged}
use Rattle.ca_board.proofs.Stock.{has_snoc, has_last, at_snoc_index, at_inside}
use Rattle.ca_board.specs.declared.ticket.Ticket.{Ticket}
use Rattle.ca_dbr.specs.declared.value.Outcome.{Outcome}
use Rattle.ca_board.specs.declared.steps.CoreLog.{CoreLog}
use Rattle.ca_board.specs.declared.steps.View.{View}
use Rattle.ca_board.specs.History.{ticket, Has, Entry, Slot, Table, Sat, caller_log, caller_view, CellOk, TakeOk, GiveOk, IsGivenUp, SeatOk, KeptAt, Kept, IsOpen, Reading, found_out, took, gave_back, gave_up}
use Rattle.ca_board.proofs.Rule.{Takers, grows, others_know, seats_stay, More, given_stays, wait_same, wait_stays}

-- a step of a caller gives a taker to a ticket
abbrev pub pick : {P A : Type 0} → Dec P → A → A → A
pick (yes _) a b = a
pick (no _) a b = b

pub pick_yes : {P A : Type 0} (d : Dec P) (a b : A) → P → pick d a b ≡ a
pick_yes (yes _) a b p = refl
pick_yes (no n) a b p = absurd (n p)

pub pick_no : {P A : Type 0} (d : Dec P) (a b : A) → ¬ P → pick d a b ≡ b
pick_no (yes p) a b n = absurd (n p)
pick_no (no _) a b n = refl

abbrev pub taken_by : Takers → ℕ → ℕ → ℕ × ℕ → Takers
taken_by f k g x c h = pick (ℕ_discrete c k) (pick (ℕ_discrete h g) x (f c h)) (f c h)

pub taken_here : (f : Takers) (k g : ℕ) (x : ℕ × ℕ) → taken_by f k g x k g ≡ x
taken_here f k g x = pick_yes (ℕ_discrete k k) _ _ refl ∙ pick_yes (ℕ_discrete g g) _ _ refl

pub taken_else : (f : Takers) (k g : ℕ) (x : ℕ × ℕ) (c h : ℕ) → ¬ ((c ≡ k) × (h ≡ g)) → taken_by f k g x c h ≡ f c h
taken_else f k g x c h n = dite (ℕ_discrete c k)
    (λ e. pick_yes (ℕ_discrete c k) _ _ e ∙ pick_no (ℕ_discrete h g) _ _ (λ q. n (e, q)))
    (λ ne. pick_no (ℕ_discrete c k) _ _ ne)

abbrev pub caller_sat : List Entry → List Ticket → List Reading → ℕ → ℕ → List (ℕ × Slot) → Sat
caller_sat tk gs sn h q c = (caller_view (caller_log tk gs sn h q), c)

pub off : {A : Type 0} → false ≡ true → A
off e = absurd (true≢false (sym e))

-- a word that was found
pub looks_kept : (s : Table) (id k : ℕ) (tk : List Entry) (gs : List Ticket) (sn : List Reading) → Kept s → get_elem? s.views id ≡ some (caller_view (caller_log tk gs sn 0 0))
    → Kept (stepped s k (get_or s.words k 0) id [] (caller_view (caller_log tk gs (sn ++ (k, get_or s.words k 0) ∷ []) 0 0)) keeps)
looks_kept s id k tk gs sn r at = let w : View = caller_view (caller_log tk gs (sn ++ (k, get_or s.words k 0) ∷ []) 0 0) in let t = r.3 in let mine = t.each_seat id (caller_view (caller_log tk gs sn 0 0)) at in
    subst (λ (ws : List ℕ). Kept record { words = ws; homes = s.homes; views = set s.views id w }) (sym (set-get_or s.words k 0)) (
      r.0,
      r.1,
      r.2,
      record {
        wide = t.wide;
        each_cell = t.each_cell;
        each_arm = t.each_arm;
        each_fill = t.each_fill;
        each_cycle = t.each_cycle;
        each_wait = λ x has un. wait_same s.words s.views id _ w x at (λ x' y. y) (t.each_wait x has un);
        each_refusal = λ i x h. given_stays s.views id _ w x at (λ x' y. y) (t.each_refusal i x h);
        each_seat = seats_stay (SeatOk r.0 r.1 r.2 s.words) s.views id w record {
          core = λ y. off y;
          takes = mine.takes;
          gives = mine.gives;
          seen = λ i x h. ⊎_elim (λ was. mine.seen i x was) (λ (same : (k, get_or s.words k 0) ≡ x). subst (λ (y : Reading). y.1 ≤ get_or s.words y.0 0) same (omega arith)) (at_snoc sn (k, get_or s.words k 0) x i h);
          hand = λ c' h. absurd (omega arith);
        } (λ j v other h. t.each_seat j v h);
      },
    )

-- the take
pub takes_kept : (s : Table) (id k g : ℕ) (tk : List Entry) (gs : List Ticket) (sn : List Reading) (o : Outcome) (keeper : ℕ) (log : CoreLog) (taker : Takers) → KeptAt keeper log taker s → get_elem? s.views id ≡ some (caller_view (caller_log tk gs sn 0 0)) → k < length s.homes → get_or s.words k 0 ≡ 8 * g + 2 → Has log.fills (ticket k g, o)
    → KeptAt keeper log (taken_by taker k g (id, length tk)) record { words = set s.words k (8 * g + 3); homes = set s.homes k maybe.none; views = set s.views id (caller_view (caller_log (tk ++ (ticket k g, o) ∷ []) gs sn (suc k) g)) }
takes_kept s id k g tk gs sn o keeper log taker r at inside is has = let e₀ : Entry = (ticket k g, o) in let taker' : Takers = taken_by taker k g (id, length tk) in let n : ℕ = 8 * g + 3 in let long = length-set s.homes k maybe.none in let wide = r.wide in
    let c = r.each_cell k inside in let small = c.small in let even : get_or s.words k 0 < 34359738368 = c.small in let now : get_or (set s.words k n) k 0 ≡ n = get_or-set_same s.words k n 0 (omega arith) in let up = grows s.words k n (omega arith) (omega arith) in
    let kept_taker : (c' h : ℕ) → 8 * h + 3 ≤ get_or s.words c' 0 → taker' c' h ≡ taker c' h = λ c' h le. taken_else taker k g (id, length tk) c' h (λ q. let z : get_or s.words c' 0 ≡ get_or s.words k 0 = ap (λ x. get_or s.words x 0) q.0 in let y = q.1 in absurd (omega arith)) in
    let mine = r.each_seat id (caller_view (caller_log tk gs sn 0 0)) at in record {
      wide = length-set s.words k n ∙ (r.wide ∙ sym long);
      each_cell = λ j near. dite (ℕ_discrete j k)
          (λ e. subst (λ (x : ℕ). CellOk log x (get_or (set s.words k n) x 0) (get_elem? (set s.homes k maybe.none) x)) (sym e) (subst (λ (y : ℕ). CellOk log k y (get_elem? (set s.homes k maybe.none) k)) (sym now) record {
            free = λ h e'. absurd (omega arith);
            waiting = λ h e' _. absurd (omega arith);
            done = λ h e'. absurd (omega arith);
            empty = λ h e'. absurd (omega arith);
            given = λ h e' _. absurd (omega arith);
            state = λ h le. omega arith;
            held = λ e' h at'. absurd (omega arith);
            armed = λ h le. c.armed h (omega arith);
            past = λ h le. c.past h (omega arith);
            small = omega arith;
          }))
          (λ ne. subst (λ (x : ℕ × maybe.Option (maybe.Option Slot)). CellOk log j x.0 x.1) (λ i. (sym (get_or-set_other s.words k j n 0 ne) i, sym (set_else s.homes k j maybe.none ne) i)) (r.each_cell j (omega arith)));
      each_arm = λ i t h. let y = r.each_arm i t h in let a = y.0 in let b = y.1 in let u = up t.cell in (omega arith, omega arith);
      each_fill = λ i e h. let y = r.each_fill i e h in let u = up e.0.cell in omega arith;
      each_cycle = λ i t h'. let y = r.each_cycle i t h' in let u = up t.cell in omega arith;
      each_wait = λ t h un. wait_stays s.words s.views k n id _ _ t (omega arith) (omega arith) at (λ t' x. x) (λ e w. absurd (omega arith)) (r.each_wait t h un);
      each_refusal = λ i t h. given_stays s.views id _ _ t at (λ t' x. x) (r.each_refusal i t h);
      each_seat = seats_stay (SeatOk keeper log taker' (set s.words k n)) s.views id (caller_view (caller_log (tk ++ e₀ ∷ []) gs sn (suc k) g)) record {
        core = λ y. off y;
        takes = λ i e h. ⊎_elim (λ was. let t = mine.takes i e was in let old = t.2 in let u = up e.0.cell in (t.0, kept_taker e.0.cell e.0.generation t.2 ∙ t.1, omega arith))
            (λ (q : (i ≡ length tk) × (e₀ ≡ e)). subst (λ (x : ℕ × Entry). TakeOk log taker' (set s.words k n) id x.0 x.1) (λ z. (sym q.0 z, q.1 z)) (has, taken_here taker k g (id, length tk), omega arith))
            (at_snoc_index tk e₀ e i h);
        gives = λ i t h. let p = mine.gives i t h in let old = p.1 in let u = up t.cell in (p.0, omega arith);
        seen = λ i x h. let y = mine.seen i x h in let u = up x.0 in omega arith;
        hand = λ c' h. let same : k ≡ c' = omega arith in subst (λ (x : ℕ). (get_or (set s.words k n) x 0 ≡ 8 * g + 3) × ((taker' x g).0 ≡ id)) same (now, ap (λ (x : ℕ × ℕ). x.0) (taken_here taker k g (id, length tk)));
      }
          (λ j v other h. others_know keeper log taker s.words k n id log taker' (omega arith) (omega arith) (λ e x. x) (inr refl) kept_taker (λ h' at'. absurd (omega arith)) (λ t le un. un) j v other (r.each_seat j v h));
    }

pub takes_as : (slots id k g first second : ℕ) (m : Sat) (tk : List Entry) (gs : List Ticket) (sn : List Reading) → m ≡ caller_sat tk gs sn 0 0 [] → k < slots → first ≡ 8 * g + 2 → second ≡ 8 * g + 3
    → Allows Kept slots id m k (λ n. either (eqb n first) second n) (took (step slots k first second maybe.none) m)
takes_as slots id k g first second m tk gs sn is inside one two = subst (λ (x : Sat). Allows Kept slots id x k (λ n. either (eqb n first) second n) (took (step slots k first second maybe.none) x)) (sym is) (λ s r long at _.
    let n : ℕ = get_or s.words k 0 in let m' : Sat = caller_sat tk gs sn 0 0 [] in let v : View = caller_view (caller_log tk gs sn 0 0) in
    exchanged n first second (λ x. (v : View) × (a : Act Slot) × Valid s.homes m'.1 a × Kept (stepped s k x id m'.1 v a) × took (step slots k first second maybe.none) m' n (v, carried_after m'.1 a))
    (λ hit. let c = r.3.each_cell k (omega arith) in let p = c.done g (hit ∙ one) in let o : Outcome = p.0 in let w : View = caller_view (caller_log (tk ++ (ticket k g, o) ∷ []) gs sn (suc k) g) in (
      w,
      takes k (Some o),
      p.1,
      subst (λ (x : ℕ). Kept record { words = set s.words k x; homes = set s.homes k maybe.none; views = set s.views id w }) (sym two)
          (r.0, r.1, taken_by r.2 k g (id, length tk), takes_kept s id k g tk gs sn o r.0 r.1 r.2 r.3 at (omega arith) (hit ∙ one) p.2),
      λ h e. let same : g ≡ h = omega arith in (
        (λ _. subst (λ (y : ℕ). (q : Outcome) × IsOpen tk gs sn (ticket k y) × (Path Sat (w, (k, Some o) ∷ []) (caller_view (caller_log (tk ++ (ticket k y, q) ∷ []) gs sn (suc k) y), (k, Some q) ∷ []))) same
            (o, ((λ q has. let t = ((r.3.each_seat id v at).takes has.0 (ticket k g, q) has.1).2 in let z = hit ∙ one in absurd (omega arith)), λ has. let t = ((r.3.each_seat id v at).gives has.0 (ticket k g) has.1).1 in let z = hit ∙ one in absurd (omega arith), λ past. let t = (r.3.each_seat id v at).seen past.1.0 (k, past.0) past.1.1 in let z = hit ∙ one in let y = past.2 in absurd (omega arith)), refl)),
        λ miss. absurd (miss hit),
      ),
    ))
    (λ miss. (
      caller_view (caller_log tk gs (sn ++ (k, n) ∷ []) 0 0),
      keeps,
      tt,
      looks_kept s id k tk gs sn r at,
      λ h e. ((λ hit. absurd (miss hit)), λ _. ((λ m has. (r.3.each_seat id v at).seen has.0 (k, m) has.1), refl)),
    )))

-- a look, which changes nothing
pub finds_as : (slots id k : ℕ) (m : Sat) (tk : List Entry) (gs : List Ticket) (sn : List Reading) → m ≡ caller_sat tk gs sn 0 0 [] → k < slots
    → Allows Kept slots id m k (λ n. n) (found_out (step slots k 0 0 maybe.none) m)
finds_as slots id k m tk gs sn is inside = subst (λ (x : Sat). Allows Kept slots id x k (λ n. n) (found_out (step slots k 0 0 maybe.none) x)) (sym is) (λ s r long at _.
    let n : ℕ = get_or s.words k 0 in let v : View = caller_view (caller_log tk gs sn 0 0) in let mine = r.3.each_seat id v at in (
      caller_view (caller_log tk gs (sn ++ (k, n) ∷ []) 0 0),
      keeps,
      tt,
      looks_kept s id k tk gs sn r at,
      (
        ((λ w has. mine.seen has.0 (k, w) has.1), refl),
        λ g low. (
          (λ o has. let t = (mine.takes has.0 (ticket k g, o) has.1).2 in absurd (omega arith)),
          (λ has. let t = (mine.gives has.0 (ticket k g) has.1).1 in absurd (omega arith)),
          λ past. let t = mine.seen past.1.0 (k, past.0) past.1.1 in let y = past.2 in absurd (omega arith),
        ),
      ),
    ))

-- the hand-back
pub hands_kept : (s : Table) (id k g : ℕ) (tk : List Entry) (gs : List Ticket) (sn : List Reading) (o : Outcome) (keeper : ℕ) (log : CoreLog) (taker : Takers) → KeptAt keeper log taker s → get_elem? s.views id ≡ some (caller_view (caller_log tk gs sn (suc k) g)) → k < length s.homes → Has tk (ticket k g, o)
    → KeptAt keeper log taker record { words = set s.words k (8 * g + 4); homes = set s.homes k (some None); views = set s.views id (caller_view (caller_log tk gs sn 0 0)) }
hands_kept s id k g tk gs sn o keeper log taker r at inside has = let n : ℕ = 8 * g + 4 in let long = length-set s.homes k (some None) in let wide = r.wide in
    let c = r.each_cell k inside in let small = c.small in let even : get_or s.words k 0 < 34359738368 = c.small in let mine = r.each_seat id (caller_view (caller_log tk gs sn (suc k) g)) at in let own = mine.hand k refl in let own_is = own.0 in
    let now : get_or (set s.words k n) k 0 ≡ n = get_or-set_same s.words k n 0 (omega arith) in let up = grows s.words k n (omega arith) (omega arith) in record {
      wide = length-set s.words k n ∙ (r.wide ∙ sym long);
      each_cell = λ j near. dite (ℕ_discrete j k)
          (λ e. subst (λ (x : ℕ). CellOk log x (get_or (set s.words k n) x 0) (get_elem? (set s.homes k (some None)) x)) (sym e) (subst (λ (y : ℕ). CellOk log k y (get_elem? (set s.homes k (some None)) k)) (sym now) record {
            free = λ h e'. absurd (omega arith);
            waiting = λ h e' _. absurd (omega arith);
            done = λ h e'. absurd (omega arith);
            empty = λ h e'. set_here s.homes k (some None) inside;
            given = λ h e' _. absurd (omega arith);
            state = λ h le. omega arith;
            held = λ e' h at'. absurd (omega arith);
            armed = λ h le. c.armed h (omega arith);
            past = λ h le. c.past h (omega arith);
            small = omega arith;
          }))
          (λ ne. subst (λ (x : ℕ × maybe.Option (maybe.Option Slot)). CellOk log j x.0 x.1) (λ i. (sym (get_or-set_other s.words k j n 0 ne) i, sym (set_else s.homes k j (some None) ne) i)) (r.each_cell j (omega arith)));
      each_arm = λ i t h. let y = r.each_arm i t h in let a = y.0 in let b = y.1 in let u = up t.cell in (omega arith, omega arith);
      each_fill = λ i e h. let y = r.each_fill i e h in let u = up e.0.cell in omega arith;
      each_cycle = λ i t h'. let y = r.each_cycle i t h' in let u = up t.cell in omega arith;
      each_wait = λ t h un. wait_stays s.words s.views k n id _ _ t (omega arith) (omega arith) at (λ t' x. x) (λ e w. absurd (omega arith)) (r.each_wait t h un);
      each_refusal = λ i t h. given_stays s.views id _ _ t at (λ t' x. x) (r.each_refusal i t h);
      each_seat = seats_stay (SeatOk keeper log taker (set s.words k n)) s.views id (caller_view (caller_log tk gs sn 0 0)) record {
        core = λ y. off y;
        takes = λ i e h. let t = mine.takes i e h in let old = t.2 in let u = up e.0.cell in (t.0, t.1, omega arith);
        gives = λ i t h. let p = mine.gives i t h in let old = p.1 in let u = up t.cell in (p.0, omega arith);
        seen = λ i x h. let y = mine.seen i x h in let u = up x.0 in omega arith;
        hand = λ c' h. absurd (omega arith);
      }
          (λ j v other h. others_know keeper log taker s.words k n id log taker (omega arith) (omega arith) (λ e x. x) (inr refl) (λ c' h' _. refl) (λ h' at'. let q : g ≡ h' = omega arith in subst (λ (y : ℕ). (taker k y).0 ≡ id) q own.1) (λ t le un. un) j v other (r.each_seat j v h));
    }

pub hands_as : (slots id k g new : ℕ) (m : Sat) (tk : List Entry) (gs : List Ticket) (sn : List Reading) (o : Outcome) → m ≡ caller_sat (tk ++ (ticket k g, o) ∷ []) gs sn (suc k) g ((k, None) ∷ []) → k < slots → new ≡ 8 * g + 4
    → Allows Kept slots id m k (λ _. new) (λ _. gave_back (step slots k new 0 maybe.none) m new)
hands_as slots id k g new m tk gs sn o is inside one = let tk' : List Entry = tk ++ (ticket k g, o) ∷ [] in subst (λ (x : Sat). Allows Kept slots id x k (λ _. new) (λ _. gave_back (step slots k new 0 maybe.none) x new)) (sym is) (λ s r long at _.
    let w : View = caller_view (caller_log tk' gs sn 0 0) in
    (w, gives, tt, subst (λ (x : ℕ). Kept record { words = set s.words k x; homes = set s.homes k (some None); views = set s.views id w }) (sym one) (r.0, r.1, r.2, hands_kept s id k g tk' gs sn o r.0 r.1 r.2 r.3 at (omega arith) (has_last tk (ticket k g, o))), refl))

-- the give-up
pub ups_kept : (s : Table) (id k g : ℕ) (tk : List Entry) (gs : List Ticket) (sn : List Reading) (keeper : ℕ) (log : CoreLog) (taker : Takers) → KeptAt keeper log taker s → get_elem? s.views id ≡ some (caller_view (caller_log tk gs sn 0 0)) → k < length s.homes → get_or s.words k 0 ≡ 8 * g + 1
    → KeptAt keeper log taker record { words = set s.words k (8 * g + 5); homes = s.homes; views = set s.views id (caller_view (caller_log tk (gs ++ ticket k g ∷ []) sn 0 0)) }
ups_kept s id k g tk gs sn keeper log taker r at inside is = let t₀ : Ticket = ticket k g in let n : ℕ = 8 * g + 5 in let wide = r.wide in let w : View = caller_view (caller_log tk (gs ++ t₀ ∷ []) sn 0 0) in
    let c = r.each_cell k inside in let small = c.small in let even : get_or s.words k 0 < 34359738368 = c.small in let mine = r.each_seat id (caller_view (caller_log tk gs sn 0 0)) at in
    let now : get_or (set s.words k n) k 0 ≡ n = get_or-set_same s.words k n 0 (omega arith) in let up = grows s.words k n (omega arith) (omega arith) in let more : More (caller_view (caller_log tk gs sn 0 0)) w = λ t x. has_snoc gs t t₀ x in record {
      wide = length-set s.words k n ∙ r.wide;
      each_cell = λ j near. dite (ℕ_discrete j k)
          (λ e. subst (λ (x : ℕ). CellOk log x (get_or (set s.words k n) x 0) (get_elem? s.homes x)) (sym e) (subst (λ (y : ℕ). CellOk log k y (get_elem? s.homes k)) (sym now) record {
            free = λ h e'. absurd (omega arith);
            waiting = λ h e' _. absurd (omega arith);
            done = λ h e'. absurd (omega arith);
            empty = λ h e'. absurd (omega arith);
            given = λ h e' away. c.waiting g is away;
            state = λ h le. omega arith;
            held = λ e' h at'. absurd (omega arith);
            armed = λ h le. c.armed h (omega arith);
            past = λ h le. c.past h (omega arith);
            small = omega arith;
          }))
          (λ ne. subst (λ (n' : ℕ). CellOk log j n' (get_elem? s.homes j)) (sym (get_or-set_other s.words k j n 0 ne)) (r.each_cell j near));
      each_arm = λ i t h. let y = r.each_arm i t h in let b = y.1 in let u = up t.cell in (y.0, omega arith);
      each_fill = λ i e h. let y = r.each_fill i e h in let u = up e.0.cell in omega arith;
      each_cycle = λ i t h'. let y = r.each_cycle i t h' in let u = up t.cell in omega arith;
      each_wait = λ t h un. let o = r.each_wait t h un in dite (ℕ_discrete t.cell k)
          (λ e. let q : get_or s.words t.cell 0 ≡ get_or s.words k 0 = ap (λ x. get_or s.words x 0) e in let q' : get_or (set s.words k n) t.cell 0 ≡ get_or (set s.words k n) k 0 = ap (λ x. get_or (set s.words k n) x 0) e in ⊎_elim
          (λ (left : get_or s.words t.cell 0 ≡ 8 * t.generation + 1). let same : g ≡ t.generation = omega arith in
          inr (omega arith, (id, w, set_here s.views id w (at_inside s.views id _ at), subst (λ (x : Ticket). Has (gs ++ t₀ ∷ []) x) (λ i. ticket (sym e i) (same i)) (has_last gs t₀))))
          (λ (right : (8 * t.generation + 5 ≤ get_or s.words t.cell 0) × IsGivenUp s.views t). let l = right.0 in inr (omega arith, given_stays s.views id _ w t at more right.1))
          o)
          (λ ne. wait_stays s.words s.views k n id _ w t (omega arith) (omega arith) at more (λ e. absurd (ne e)) o);
      each_refusal = λ i t h. given_stays s.views id _ w t at more (r.each_refusal i t h);
      each_seat = seats_stay (SeatOk keeper log taker (set s.words k n)) s.views id w record {
        core = λ y. off y;
        takes = λ i e h. let t = mine.takes i e h in let old = t.2 in let u = up e.0.cell in (t.0, t.1, omega arith);
        gives = λ i t h. ⊎_elim (λ was. let p = mine.gives i t was in let old = p.1 in let u = up t.cell in (p.0, omega arith))
            (λ (same : t₀ ≡ t). subst (λ (x : Ticket). GiveOk log (set s.words k n) x) same ((λ o h'. let y : 8 * g + 2 ≤ get_or s.words k 0 = r.each_fill h'.0 (t₀, o) h'.1 in absurd (omega arith)), omega arith)) (at_snoc gs t₀ t i h);
        seen = λ i x h. let y = mine.seen i x h in let u = up x.0 in omega arith;
        hand = λ c' h. absurd (omega arith);
      }
          (λ j v other h. others_know keeper log taker s.words k n id log taker (omega arith) (omega arith) (λ e x. x) (inr refl) (λ c' h' _. refl) (λ h' at'. absurd (omega arith)) (λ t le un. un) j v other (r.each_seat j v h));
    }

pub ups_as : (slots id k g first second : ℕ) (m : Sat) (tk : List Entry) (gs : List Ticket) (sn : List Reading) → m ≡ caller_sat tk gs sn 0 0 [] → k < slots → first ≡ 8 * g + 1 → second ≡ 8 * g + 5
    → Allows Kept slots id m k (λ n. either (eqb n first) second n) (gave_up (step slots k first second maybe.none) m)
ups_as slots id k g first second m tk gs sn is inside one two = subst (λ (x : Sat). Allows Kept slots id x k (λ n. either (eqb n first) second n) (gave_up (step slots k first second maybe.none) x)) (sym is) (λ s r long at _.
    let n : ℕ = get_or s.words k 0 in let m' : Sat = caller_sat tk gs sn 0 0 [] in let v : View = caller_view (caller_log tk gs sn 0 0) in let w : View = caller_view (caller_log tk (gs ++ ticket k g ∷ []) sn 0 0) in
    exchanged n first second (λ x. (v : View) × (a : Act Slot) × Valid s.homes m'.1 a × Kept (stepped s k x id m'.1 v a) × gave_up (step slots k first second maybe.none) m' n (v, carried_after m'.1 a))
    (λ hit. (
      w,
      keeps,
      tt,
      subst (λ (x : ℕ). Kept record { words = set s.words k x; homes = s.homes; views = set s.views id w }) (sym two) (r.0, r.1, r.2, ups_kept s id k g tk gs sn r.0 r.1 r.2 r.3 at (omega arith) (hit ∙ one)),
      λ h e. let same : g ≡ h = omega arith in (
        (λ _. subst (λ (y : ℕ). IsOpen tk gs sn (ticket k y) × (Path Sat (w, []) (caller_view (caller_log tk (gs ++ ticket k y ∷ []) sn 0 0), []))) same
            (((λ q has. let t = ((r.3.each_seat id v at).takes has.0 (ticket k g, q) has.1).2 in let z = hit ∙ one in absurd (omega arith)), λ has. let t = ((r.3.each_seat id v at).gives has.0 (ticket k g) has.1).1 in let z = hit ∙ one in absurd (omega arith), λ past. let t = (r.3.each_seat id v at).seen past.1.0 (k, past.0) past.1.1 in let z = hit ∙ one in let y = past.2 in absurd (omega arith)), refl)),
        λ miss. absurd (miss hit),
      ),
    ))
    (λ miss. (
      caller_view (caller_log tk gs (sn ++ (k, n) ∷ []) 0 0),
      keeps,
      tt,
      looks_kept s id k tk gs sn r at,
      λ h e. ((λ hit. absurd (miss hit)), λ _. ((λ m has. (r.3.each_seat id v at).seen has.0 (k, m) has.1), refl)),
    )))
