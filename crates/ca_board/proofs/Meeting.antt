-- A seat is split, and two are joined.
use Rattle.std.proofs.Common.{◌≡◌, ◌≢◌, ℕ, List, [], ◌∷◌, ◌++◌, length, set, refl, sym, ap, ◌∙◌, subst, ⊎_elim, arith}
use mathlib.Core.Logic.{dite}
use mathlib.Core.Option.{some, some-ne-none, some-injective}
use mathlib.Core.Option as maybe
use native.Mathlib.Decide.{ℕ_discrete}
use lib.ListN.{get_elem?}
use Rattle.atomic_table.specs.Table.{step, keeps, Allows, Splits, Joins}
use Rattle.atomic_table.proofs.Lists.{at_set, set_again, set_here, set_else, at_longer, at_last, at_snoc}
use Rattle.ca_board.proofs.Stock.{at_snoc_index, at_inside}
use Rattle.ca_board.specs.declared.ticket.Ticket.{Ticket}
use Rattle.ca_board.specs.declared.steps.CoreLog.{CoreLog}
use Rattle.ca_board.specs.declared.steps.View.{View}
use Rattle.ca_board.specs.History.{Has, Entry, Reading, Sat, IsUnfilled, core_log, caller_log, no_caller, core_view, caller_view, IsGivenUp, WaitOk, SeatOk, Kept, compared, core_part, caller_part, both_parts, nobody}
use Rattle.ca_board.proofs.Rule.{Takers, seats_stay, More, given_stays, wait_by, wait_same, no_tickets, still, core_sat, no_takes}
use Rattle.ca_board.proofs.Collecting.{pick, pick_yes, pick_no, caller_sat, off}

none_seen : {A : Type 0} (i : ℕ) (x : Reading) → get_elem? {A = Reading} [] i ≡ some x → A
none_seen i x at = absurd (some-ne-none x (sym at))

-- a seat that knows nothing
pub nobody_ok : (keeper : ℕ) (log : CoreLog) (taker : Takers) (ws : List ℕ) (j : ℕ) → SeatOk keeper log taker ws j nobody
nobody_ok keeper log taker ws j = record { core = λ y. off y; takes = λ i e at. no_takes i e at; gives = λ i t at. no_tickets i t at; seen = λ i x at. none_seen i x at; hand = λ k is. absurd (omega arith) }

-- a give-up stays where a seat is added
pub given_longer : (vs : List View) (x : View) (t : Ticket) → IsGivenUp vs t → IsGivenUp (vs ++ x ∷ []) t
given_longer vs x t h = (h.0, h.1, at_longer vs (x ∷ []) h.0 h.1 h.2, h.3)

pub wait_longer : (ws : List ℕ) (vs : List View) (x : View) (t : Ticket) → WaitOk ws vs t → WaitOk ws (vs ++ x ∷ []) t
wait_longer ws vs x t o = wait_by ws vs (vs ++ x ∷ []) t (given_longer vs x t) o

pub splits_new : (id : ℕ) (v : View) → Splits Kept id v v nobody
splits_new id v s r at = let t = r.3 in (
  r.0,
  r.1,
  r.2,
  record {
    wide = t.wide;
    each_cell = t.each_cell;
    each_arm = t.each_arm;
    each_fill = t.each_fill;
    each_cycle = t.each_cycle;
    each_wait = λ u has un. wait_longer s.words (set s.views id v) nobody u (wait_same s.words s.views id v v u at (λ u' x. x) (t.each_wait u has un));
    each_refusal = λ i u h. given_longer (set s.views id v) nobody u (given_stays s.views id v v u at (λ u' x. x) (t.each_refusal i u h));
    each_seat = λ j w e. ⊎_elim (λ was. t.each_seat j w (subst (λ (l : List View). get_elem? l j ≡ some w) (set_again s.views id v at) was))
        (λ (is : nobody ≡ w). subst (λ (x : View). SeatOk r.0 r.1 r.2 s.words j x) is (nobody_ok r.0 r.1 r.2 s.words j)) (at_snoc (set s.views id v) nobody w j e);
  },
)

-- a seat's takes go to another seat
abbrev pub moved_to : ℕ → ℕ → ℕ × ℕ → ℕ × ℕ
moved_to a b x = pick (ℕ_discrete x.0 a) (b, x.1) x

pub moved_there : (a b : ℕ) (x : ℕ × ℕ) (i : ℕ) → x ≡ (a, i) → moved_to a b x ≡ (b, i)
moved_there a b x i e = ap (moved_to a b) e ∙ pick_yes (ℕ_discrete a a) (b, i) (a, i) refl

pub moved_not : (a b : ℕ) (x : ℕ × ℕ) → x.0 ≢ a → moved_to a b x ≡ x
moved_not a b x n = pick_no (ℕ_discrete x.0 a) (b, x.1) x n

-- what a seat knows, where another's takes go to a third
pub elsewhere : (keeper : ℕ) (log : CoreLog) (taker : Takers) (ws : List ℕ) (a b j : ℕ) (v : View) → j ≢ a → SeatOk keeper log taker ws j v → SeatOk keeper log (λ c g. moved_to a b (taker c g)) ws j v
elsewhere keeper log taker ws a b j v other ok = record {
  core = ok.core;
  takes = λ i e at. let t = ok.takes i e at in (t.0, moved_not a b _ (λ z. other (sym (ap (λ (x : ℕ × ℕ). x.0) t.1) ∙ z)) ∙ t.1, t.2);
  gives = ok.gives;
  seen = ok.seen;
  hand = λ c is. let p = ok.hand c is in (p.0, ap (λ (x : ℕ × ℕ). x.0) (moved_not a b (taker c v.caller.round) (λ z. other (sym p.1 ∙ z))) ∙ p.1);
}

abbrev pub met_view : List Ticket → List Entry → List Entry → List Ticket → List Ticket → List Ticket → List Reading → View
met_view ts fs tk gs rs cs sn = core_view (core_log ts fs rs cs 0) (caller_log tk gs sn 0 0)

-- a give-up stays where a seat takes in another's
pub given_joined : (vs : List View) (id other : ℕ) (v w u x : View) (t : Ticket) → get_elem? vs id ≡ some v → get_elem? vs other ≡ some w → other ≢ id → More v u → More w u → IsGivenUp vs t → IsGivenUp (set (set vs id u) other x) t
given_joined vs id other v w u x t at there apart more more' h =
    let new : get_elem? (set (set vs id u) other x) id ≡ some u = set_else (set vs id u) other id x (λ z. apart (sym z)) ∙ set_here vs id u (at_inside vs id v at) in dite (ℕ_discrete h.0 other)
    (λ e. let same : h.1 ≡ w = some-injective _ _ (sym h.2 ∙ (ap (λ j. get_elem? vs j) e ∙ there)) in (id, u, new, more' t (subst (λ (y : View). Has y.caller.gives t) same h.3)))
    (λ ne. dite (ℕ_discrete h.0 id)
    (λ e. let same : h.1 ≡ v = some-injective _ _ (sym h.2 ∙ (ap (λ j. get_elem? vs j) e ∙ at)) in (id, u, new, more t (subst (λ (y : View). Has y.caller.gives t) same h.3)))
    (λ ne'. (h.0, h.1, set_else (set vs id u) other h.0 x ne ∙ (set_else vs id h.0 u ne' ∙ h.2), h.3)))

-- a give-up stays where a seat is cut in two
pub given_parted : (vs : List View) (id : ℕ) (u v w : View) (t : Ticket) → get_elem? vs id ≡ some u → More u w → IsGivenUp vs t → IsGivenUp (set vs id v ++ w ∷ []) t
given_parted vs id u v w t at more h = dite (ℕ_discrete h.0 id)
    (λ e. let same : h.1 ≡ u = some-injective _ _ (sym h.2 ∙ (ap (λ j. get_elem? vs j) e ∙ at)) in (length (set vs id v), w, at_last (set vs id v) w (length (set vs id v)) refl, more t (subst (λ (y : View). Has y.caller.gives t) same h.3)))
    (λ ne. (h.0, h.1, at_longer (set vs id v) (w ∷ []) h.0 h.1 (set_else vs id h.0 v ne ∙ h.2), h.3))

pub joins_both : (id other : ℕ) (ts : List Ticket) (fs tk : List Entry) (gs rs cs : List Ticket) (sn : List Reading) → Joins Kept id (core_view (core_log ts fs rs cs 0) no_caller) other (caller_view (caller_log tk gs sn 0 0)) (met_view ts fs tk gs rs cs sn) nobody
joins_both id other ts fs tk gs rs cs sn s r at apart there = let v : View = core_view (core_log ts fs rs cs 0) no_caller in let w : View = caller_view (caller_log tk gs sn 0 0) in let u : View = met_view ts fs tk gs rs cs sn in let t = r.3 in
    let taker' : Takers = λ c g. moved_to other id (r.2 c g) in
    let was : get_elem? s.views other ≡ some w = sym (set_else s.views id other u apart) ∙ there in let theirs = t.each_seat other w was in let mine = t.each_seat id v at in (
      r.0,
      r.1,
      taker',
      record {
        wide = t.wide;
        each_cell = t.each_cell;
        each_arm = t.each_arm;
        each_fill = t.each_fill;
        each_cycle = t.each_cycle;
        each_wait = λ x has un. wait_by s.words s.views (set (set s.views id u) other nobody) x (given_joined s.views id other v w u nobody x at was apart (λ y h. no_tickets h.0 y h.1) (λ y h. h)) (t.each_wait x has un);
        each_refusal = λ i x h. given_joined s.views id other v w u nobody x at was apart (λ y h'. no_tickets h'.0 y h'.1) (λ y h'. h') (t.each_refusal i x h);
        each_seat = seats_stay (SeatOk r.0 r.1 taker' s.words) (set s.views id u) other nobody (nobody_ok r.0 r.1 taker' s.words other)
            (λ j x away e. ⊎_elim
            (λ (q : (j ≡ id) × (u ≡ x)). subst (λ (y : ℕ × View). SeatOk r.0 r.1 taker' s.words y.0 y.1) (λ z. (sym q.0 z, q.1 z)) record {
              core = mine.core;
              takes = λ i e' h. let p = theirs.takes i e' h in (p.0, moved_there other id _ i p.1, p.2);
              gives = theirs.gives;
              seen = theirs.seen;
              hand = λ k is. absurd (omega arith);
            })
            (λ (q : (j ≢ id) × (get_elem? s.views j ≡ some x)). elsewhere r.0 r.1 r.2 s.words other id j x away (t.each_seat j x q.1))
            (at_set s.views id j u x e));
      },
    )

pub joins_as : (id other : ℕ) (m n : Sat) (ts : List Ticket) (fs tk : List Entry) (gs rs cs : List Ticket) (sn : List Reading) → m ≡ core_sat ts fs rs cs 0 [] → n ≡ caller_sat tk gs sn 0 0 [] → Joins Kept id m.0 other n.0 (both_parts m.0 n.0) nobody
joins_as id other m n ts fs tk gs rs cs sn e f = subst (λ (x : Sat × Sat). Joins Kept id x.0.0 other x.1.0 (both_parts x.0.0 x.1.0) nobody) (λ i. (sym e i, sym f i)) (joins_both id other ts fs tk gs rs cs sn)

pub compares_as : (slots id k : ℕ) (m : Sat) (ts : List Ticket) (fs tk : List Entry) (gs rs cs : List Ticket) (sn : List Reading) → m ≡ (met_view ts fs tk gs rs cs sn, []) → Allows Kept slots id m k (λ n. n) (compared (step slots k 0 0 maybe.none) m)
compares_as slots id k m ts fs tk gs rs cs sn is = let u : View = met_view ts fs tk gs rs cs sn in subst (λ (x : Sat). Allows Kept slots id x k (λ n. n) (compared (step slots k 0 0 maybe.none) x)) (sym is) (λ s r long at _.
    let ok = r.3.each_seat id u at in let mine = ok.core refl in (
      u,
      keeps,
      tt,
      still s r k id [] u at,
      (
        refl,
        (
          (λ i e h. subst (λ (l : CoreLog). Has l.fills e) (sym mine.1) (ok.takes i e h).0),
          (λ i i' e e' h h' same. ap (λ (x : ℕ × ℕ). x.1) (sym (ok.takes i e h).1 ∙ (ap (λ (x : Ticket). r.2 x.cell x.generation) same ∙ (ok.takes i' e' h').1))),
          λ i t h. subst (λ (l : CoreLog). IsUnfilled l.fills t) (sym mine.1) (ok.gives i t h).0,
        ),
      ),
    ))

pub parts_as : (id : ℕ) (m : Sat) (ts : List Ticket) (fs tk : List Entry) (gs rs cs : List Ticket) (sn : List Reading) → m ≡ (met_view ts fs tk gs rs cs sn, []) → Splits Kept id m.0 (core_part m.0) (caller_part m.0)
parts_as id m ts fs tk gs rs cs sn is = subst (λ (x : Sat). Splits Kept id x.0 (core_part x.0) (caller_part x.0)) (sym is) (λ s r at.
    let u : View = met_view ts fs tk gs rs cs sn in let v : View = core_view (core_log ts fs rs cs 0) no_caller in let w : View = caller_view (caller_log tk gs sn 0 0) in let t = r.3 in let n : ℕ = length (set s.views id v) in
    let taker' : Takers = λ c g. moved_to id n (r.2 c g) in let mine = t.each_seat id u at in (
      r.0,
      r.1,
      taker',
      record {
        wide = t.wide;
        each_cell = t.each_cell;
        each_arm = t.each_arm;
        each_fill = t.each_fill;
        each_cycle = t.each_cycle;
        each_wait = λ x has un. wait_by s.words s.views (set s.views id v ++ w ∷ []) x (given_parted s.views id u v w x at (λ y h. h)) (t.each_wait x has un);
        each_refusal = λ i x h. given_parted s.views id u v w x at (λ y h'. h') (t.each_refusal i x h);
        each_seat = λ j x e. ⊎_elim
            (λ was. seats_stay (SeatOk r.0 r.1 taker' s.words) s.views id v
            record { core = mine.core; takes = λ i e' h. no_takes i e' h; gives = λ i x h. no_tickets i x h; seen = λ i x h. none_seen i x h; hand = λ k h. absurd (omega arith) }
            (λ j' x' away h. elsewhere r.0 r.1 r.2 s.words id n j' x' away (t.each_seat j' x' h)) j x was)
            (λ (q : (j ≡ n) × (w ≡ x)). subst (λ (y : ℕ × View). SeatOk r.0 r.1 taker' s.words y.0 y.1) (λ z. (sym q.0 z, q.1 z)) record {
              core = λ y. off y;
              takes = λ i e' h. let p = mine.takes i e' h in (p.0, moved_there id n _ i p.1, p.2);
              gives = mine.gives;
              seen = mine.seen;
              hand = λ k h. absurd (omega arith);
            })
            (at_snoc_index (set s.views id v) w x j e);
      },
    ))
