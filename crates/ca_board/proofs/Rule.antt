-- What a step leaves as it was.
use Rattle.std.proofs.Common.{◌≡◌, ◌≢◌, ◌⊎◌, ℕ, ◌+◌, ◌*◌, ◌<◌, ◌≤◌, List, [], length, set, get_or, inl, inr, refl, sym, ap, ◌∙◌, subst, ⊎_elim, arith, get_or-set_other, get_or-set_same}
use mathlib.Core.Logic.{dite}
use mathlib.Core.Option.{some, some-ne-none, some-injective}
use native.Mathlib.Decide.{ℕ_discrete}
use lib.ListN.{get_elem?}
use lib.Seq.{set-get_or}
use Rattle.atomic_table.specs.Table.{keeps, stepped}
use Rattle.atomic_table.proofs.Lists.{at_set, set_again, set_here, set_else}
use Rattle.ca_board.proofs.Stock.{at_inside}
use Rattle.ca_board.specs.declared.ticket.Ticket.{Ticket}
use Rattle.ca_board.specs.declared.steps.CoreLog.{CoreLog}
use Rattle.ca_board.specs.declared.steps.CallerLog.{CallerLog}
use Rattle.ca_board.specs.declared.steps.View.{View}
use Rattle.ca_board.specs.History.{Has, Entry, Slot, Table, Sat, IsUnfilled, core_log, no_caller, core_view, IsGivenUp, WaitOk, SeatOk, KeptAt, Kept}

abbrev pub Takers : Type 0
Takers = ℕ → ℕ → ℕ × ℕ

pub grows : (ws : List ℕ) (k n : ℕ) → k < length ws → get_or ws k 0 ≤ n → (j : ℕ) → get_or ws j 0 ≤ get_or (set ws k n) j 0
grows ws k n inside up j = dite (ℕ_discrete j k)
    (λ e. let same = get_or-set_same ws k n 0 inside in let a : get_or ws j 0 ≡ get_or ws k 0 = ap (λ z. get_or ws z 0) e in let b : get_or (set ws k n) j 0 ≡ get_or (set ws k n) k 0 = ap (λ z. get_or (set ws k n) z 0) e in omega arith)
    (λ ne. let same = get_or-set_other ws k j n 0 ne in omega arith)

-- what the other seats know stays so
pub others_know : (keeper : ℕ) (log : CoreLog) (taker : Takers) (ws : List ℕ) (k n id : ℕ) (log' : CoreLog) (taker' : Takers) → k < length ws → get_or ws k 0 ≤ n
    → ((e : Entry) → Has log.fills e → Has log'.fills e) → (id ≡ keeper) ⊎ (log' ≡ log) → ((c g : ℕ) → 8 * g + 3 ≤ get_or ws c 0 → taker' c g ≡ taker c g)
    → ((g : ℕ) → get_or ws k 0 ≡ 8 * g + 3 → (taker k g).0 ≡ id) → ((t : Ticket) → 8 * t.generation + 5 ≤ get_or ws t.cell 0 → IsUnfilled log.fills t → IsUnfilled log'.fills t) → (j : ℕ) (v : View) → j ≢ id → SeatOk keeper log taker ws j v → SeatOk keeper log' taker' (set ws k n) j v
others_know keeper log taker ws k n id log' taker' inside up more who same free ungiven j v other ok = record {
  core = λ c. let old = ok.core c in (old.0, ⊎_elim (λ (is : id ≡ keeper). absurd (other (old.0 ∙ sym is))) (λ (e : log' ≡ log). old.1 ∙ sym e) who);
  takes = λ i e at. let t = ok.takes i e at in let g = grows ws k n inside up e.0.cell in let old = t.2 in (more e t.0, same e.0.cell e.0.generation t.2 ∙ t.1, omega arith);
  gives = λ i t at. let p = ok.gives i t at in let old = p.1 in let g = grows ws k n inside up t.cell in (ungiven t p.1 p.0, omega arith);
  seen = λ i x at. let y = ok.seen i x at in let g = grows ws k n inside up x.0 in omega arith;
  hand = λ c is. let p = ok.hand c is in let at = p.0 in let q : ℕ = v.caller.round in dite (ℕ_discrete c k)
      (λ e. absurd (other (sym p.1 ∙ (ap (λ z. (taker z q).0) e ∙ free q (ap (λ z. get_or ws z 0) (sym e) ∙ p.0)))))
      (λ ne. (get_or-set_other ws k c n 0 ne ∙ p.0, ap (λ (x : ℕ × ℕ). x.0) (same c q (omega arith)) ∙ p.1));
}

pub seats_stay : (K : ℕ → View → Type 0) (vs : List View) (me : ℕ) (w : View) → K me w → ((j : ℕ) (d : View) → j ≢ me → get_elem? vs j ≡ some d → K j d)
    → (j : ℕ) (d : View) → get_elem? (set vs me w) j ≡ some d → K j d
seats_stay K vs me w mine others j d e = ⊎_elim (λ (t : (j ≡ me) × (w ≡ d)). subst (λ (x : ℕ × View). K x.0 x.1) (λ i. (sym t.0 i, t.1 i)) mine)
    (λ (t : (j ≢ me) × (get_elem? vs j ≡ some d)). others j d t.0 t.1) (at_set vs me j w d e)

-- a give-up stays, where a seat's list of them only grows
abbrev pub More : View → View → Type 0
More v w = (t : Ticket) → Has v.caller.gives t → Has w.caller.gives t

pub given_stays : (vs : List View) (id : ℕ) (v w : View) (t : Ticket) → get_elem? vs id ≡ some v → More v w → IsGivenUp vs t → IsGivenUp (set vs id w) t
given_stays vs id v w t at more h = dite (ℕ_discrete h.0 id)
    (λ e. let same : h.1 ≡ v = some-injective _ _ (sym h.2 ∙ (ap (λ j. get_elem? vs j) e ∙ at)) in (id, w, set_here vs id w (at_inside vs id v at), more t (subst (λ (x : View). Has x.caller.gives t) same h.3)))
    (λ ne. (h.0, h.1, set_else vs id h.0 w ne ∙ h.2, h.3))

-- a ticket that waits, or was given up, where another word changes, or a word that was not its own
pub wait_stays : (ws : List ℕ) (vs : List View) (k n id : ℕ) (v w : View) (t : Ticket) → k < length ws → get_or ws k 0 ≤ n → get_elem? vs id ≡ some v → More v w
    → (t.cell ≡ k → get_or ws k 0 ≢ 8 * t.generation + 1) → WaitOk ws vs t → WaitOk (set ws k n) (set vs id w) t
wait_stays ws vs k n id v w t inside up at more apart o = ⊎_elim
    (λ (left : get_or ws t.cell 0 ≡ 8 * t.generation + 1). dite (ℕ_discrete t.cell k)
    (λ e. absurd (apart e (ap (λ x. get_or ws x 0) (sym e) ∙ left)))
    (λ ne. inl (get_or-set_other ws k t.cell n 0 ne ∙ left)))
    (λ (right : (8 * t.generation + 5 ≤ get_or ws t.cell 0) × IsGivenUp vs t). let g = grows ws k n inside up t.cell in let l = right.0 in inr (omega arith, given_stays vs id v w t at more right.1))
    o

-- the same where no word changes
pub wait_by : (ws : List ℕ) (vs vs' : List View) (t : Ticket) → (IsGivenUp vs t → IsGivenUp vs' t) → WaitOk ws vs t → WaitOk ws vs' t
wait_by ws vs vs' t f o = ⊎_elim
    (λ (left : get_or ws t.cell 0 ≡ 8 * t.generation + 1). inl left)
    (λ (right : (8 * t.generation + 5 ≤ get_or ws t.cell 0) × IsGivenUp vs t). inr (right.0, f right.1))
    o

pub wait_same : (ws : List ℕ) (vs : List View) (id : ℕ) (v w : View) (t : Ticket) → get_elem? vs id ≡ some v → More v w → WaitOk ws vs t → WaitOk ws (set vs id w) t
wait_same ws vs id v w t at more o = wait_by ws vs (set vs id w) t (given_stays vs id v w t at more) o

pub no_tickets : {A : Type 0} (i : ℕ) (t : Ticket) → get_elem? {A = Ticket} [] i ≡ some t → A
no_tickets i t at = absurd (some-ne-none t (sym at))

-- a step that finds another word than it wants
pub still : (s : Table) → Kept s → (i id : ℕ) (c : List (ℕ × Slot)) (v : View) → get_elem? s.views id ≡ some v → Kept (stepped s i (get_or s.words i 0) id c v keeps)
still s r i id c v at = subst (λ (x : List ℕ × List View). Kept record { words = x.0; homes = s.homes; views = x.1 }) (λ z. (sym (set-get_or s.words i 0) z, sym (set_again s.views id v at) z)) r

-- the rule, as the core's seat finds it
abbrev pub as_core : (s : Table) → Kept s → (id : ℕ) (log : CoreLog) (c : CallerLog) → get_elem? s.views id ≡ some (core_view log c) → Type 0
as_core s r id log c at = (taker : Takers) × KeptAt id log taker s

pub found : (s : Table) (r : Kept s) (id : ℕ) (log : CoreLog) (c : CallerLog) (at : get_elem? s.views id ≡ some (core_view log c)) → as_core s r id log c at
found s r id log c at = let is = (r.3.each_seat id (core_view log c) at).core refl in (r.2, subst (λ (x : ℕ × CoreLog). KeptAt x.0 x.1 r.2 s) (λ z. (sym is.0 z, sym is.1 z)) r.3)

abbrev pub core_sat : List Ticket → List Entry → List Ticket → List Ticket → ℕ → List (ℕ × Slot) → Sat
core_sat ts fs rs cs h c = (core_view (core_log ts fs rs cs h) no_caller, c)

pub no_takes : {A : Type 0} (i : ℕ) (e : Entry) → get_elem? {A = Entry} [] i ≡ some e → A
no_takes i e at = absurd (some-ne-none e (sym at))

-- the core's own seat, which takes nothing
pub core_ok : (id : ℕ) (log : CoreLog) (taker : Takers) (ws : List ℕ) → SeatOk id log taker ws id (core_view log no_caller)
core_ok id log taker ws = record { core = λ _. (refl, refl); takes = λ i e at. no_takes i e at; gives = λ i t at. no_tickets i t at; seen = λ i x at. absurd (some-ne-none x (sym at)); hand = λ k is. absurd (omega arith) }
