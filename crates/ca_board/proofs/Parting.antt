-- Two callers' seats as one, and cut in two again.
use Rattle.std.proofs.Common.{◌≡◌, ◌≢◌, ◌⊎◌, ℕ, zero, suc, ◌+◌, ◌-◌, ◌<◌, List, [], ◌∷◌, ◌++◌, length, set, inl, inr, refl, sym, ap, ◌∙◌, subst, ⊎_elim, arith}
use mathlib.Core.Logic.{dite}
use mathlib.Core.Option.{some, some-ne-none, some-injective}
use mathlib.Core.Option as maybe
use native.Mathlib.Decide.{ℕ_discrete, dec_le}
use lib.ListN.{get_elem?}
use Rattle.atomic_table.specs.Table.{step, keeps, Allows, Splits, Joins}
use Rattle.atomic_table.proofs.Lists.{at_set, set_here, set_else, at_longer, at_last}
use Rattle.ca_board.proofs.Stock.{at_snoc_index, at_inside}
use Rattle.ca_board.specs.declared.ticket.Ticket.{Ticket}
use Rattle.ca_board.specs.declared.steps.CoreLog.{CoreLog}
use Rattle.ca_board.specs.declared.steps.CallerLog.{CallerLog}
use Rattle.ca_board.specs.declared.steps.View.{View}
use Rattle.ca_board.specs.History.{Has, Entry, Reading, Sat, caller_log, caller_view, held_apart, IsGivenUp, SeatOk, Kept, nobody, one_part, other_part, pair_view, paired}
use Rattle.ca_board.proofs.Rule.{Takers, seats_stay, wait_by, still}
use Rattle.ca_board.proofs.Collecting.{pick, pick_yes, pick_no, caller_sat, off}
use Rattle.ca_board.proofs.Meeting.{given_joined, nobody_ok}

-- places of two lists, one after the other
at_behind : {A : Type 0} (xs ys : List A) (i : ℕ) (x : A) → get_elem? ys i ≡ some x → get_elem? (xs ++ ys) (length xs + i) ≡ some x
at_behind [] ys i x at = ap (λ (k : ℕ). get_elem? ys k) {x = 0 + i} {y = i} (omega arith) ∙ at
at_behind (y ∷ xs) ys i x at = ap (λ (k : ℕ). get_elem? (y ∷ (xs ++ ys)) k) {x = suc (length xs) + i} {y = suc (length xs + i)} (omega arith) ∙ at_behind xs ys i x at

-- in the second of two lists, at this place
abbrev Behind : {A : Type 0} → List A → List A → ℕ → A → Type 0
Behind xs ys i x = (j : ℕ) × (i ≡ length xs + j) × (get_elem? ys j ≡ some x)

at_either : {A : Type 0} (xs ys : List A) (i : ℕ) (x : A) → get_elem? (xs ++ ys) i ≡ some x → (get_elem? xs i ≡ some x) ⊎ Behind xs ys i x
at_either [] ys i x at = inr (i, omega arith, at)
at_either (y ∷ xs) ys zero x at = inl at
at_either (y ∷ xs) ys (suc i) x at = ⊎_elim (λ (was : get_elem? xs i ≡ some x). inl was) (λ (is : Behind xs ys i x). let e = is.1 in inr (is.0, omega arith, is.2)) (at_either xs ys i x at)

-- what the other seats know, where the takes of one seat are numbered again
elsewhere : (keeper : ℕ) (log : CoreLog) (taker : Takers) (ws : List ℕ) (a j : ℕ) (v : View) (f : ℕ × ℕ → ℕ × ℕ) → ((x : ℕ × ℕ) → x.0 ≢ a → f x ≡ x) → j ≢ a → SeatOk keeper log taker ws j v → SeatOk keeper log (λ c g. f (taker c g)) ws j v
elsewhere keeper log taker ws a j v f same other ok = record {
  core = ok.core;
  takes = λ i e at. let t = ok.takes i e at in (t.0, same _ (λ z. other (sym (ap (λ (x : ℕ × ℕ). x.0) t.1) ∙ z)) ∙ t.1, t.2);
  gives = ok.gives;
  seen = ok.seen;
  hand = λ c is. let p = ok.hand c is in (p.0, ap (λ (x : ℕ × ℕ). x.0) (same (taker c v.caller.round) (λ z. other (sym p.1 ∙ z))) ∙ p.1);
}

-- the takes of seat a go after those of seat b, which has n
abbrev behind_to : ℕ → ℕ → ℕ → ℕ × ℕ → ℕ × ℕ
behind_to a b n x = pick (ℕ_discrete x.0 a) (b, n + x.1) x

behind_there : (a b n : ℕ) (x : ℕ × ℕ) (i : ℕ) → x ≡ (a, i) → behind_to a b n x ≡ (b, n + i)
behind_there a b n x i e = ap (behind_to a b n) e ∙ pick_yes (ℕ_discrete a a) (b, n + i) (a, i) refl

behind_not : (a b n : ℕ) (x : ℕ × ℕ) → x.0 ≢ a → behind_to a b n x ≡ x
behind_not a b n x other = pick_no (ℕ_discrete x.0 a) (b, n + x.1) x other

-- the takes of seat a from the n-th on go to seat b
abbrev from_to : ℕ → ℕ → ℕ → ℕ × ℕ → ℕ × ℕ
from_to a b n x = pick (ℕ_discrete x.0 a) (pick (dec_le n x.1) (b, x.1 - n) x) x

from_there : (a b n : ℕ) (x : ℕ × ℕ) (i : ℕ) → x ≡ (a, n + i) → from_to a b n x ≡ (b, i)
from_there a b n x i e =
    ap (from_to a b n) e ∙ pick_yes (ℕ_discrete a a) _ _ refl ∙ pick_yes (dec_le n (n + i)) (b, n + i - n) (a, n + i) (omega arith)
    ∙ ap (λ (k : ℕ). let x : ℕ × ℕ = (b, k) in x) {x = n + i - n} {y = i} (omega arith)

from_before : (a b n : ℕ) (x : ℕ × ℕ) (i : ℕ) → i < n → x ≡ (a, i) → from_to a b n x ≡ (a, i)
from_before a b n x i less e =
    ap (from_to a b n) e ∙ pick_yes (ℕ_discrete a a) _ _ refl ∙ pick_no (dec_le n i) (b, i - n) (a, i) (λ le. absurd (omega arith))

from_not : (a b n : ℕ) (x : ℕ × ℕ) → x.0 ≢ a → from_to a b n x ≡ x
from_not a b n x other = pick_no (ℕ_discrete x.0 a) _ x other

-- a give-up stays where a seat is cut in two, and each half keeps its own
given_shared : (vs : List View) (id : ℕ) (u v w : View) (t : Ticket) → get_elem? vs id ≡ some u → (Has u.caller.gives t → Has v.caller.gives t ⊎ Has w.caller.gives t) → IsGivenUp vs t → IsGivenUp (set vs id v ++ w ∷ []) t
given_shared vs id u v w t at share h = dite (ℕ_discrete h.0 id)
    (λ e. let same : h.1 ≡ u = some-injective _ _ (sym h.2 ∙ (ap (λ j. get_elem? vs j) e ∙ at)) in
    ⊎_elim
    (λ (mine : Has v.caller.gives t). (id, v, at_longer (set vs id v) (w ∷ []) id v (set_here vs id v (at_inside vs id u at)), mine))
    (λ (theirs : Has w.caller.gives t). (length (set vs id v), w, at_last (set vs id v) w (length (set vs id v)) refl, theirs))
    (share (subst (λ (x : View). Has x.caller.gives t) same h.3)))
    (λ ne. (h.0, h.1, at_longer (set vs id v) (w ∷ []) h.0 h.1 (set_else vs id h.0 v ne ∙ h.2), h.3))

module _ (tk : List Entry) (gs : List Ticket) (sn : List Reading) (tk' : List Entry) (gs' : List Ticket) (sn' : List Reading) where
  abbrev one : CallerLog
  one = caller_log tk gs sn 0 0

  abbrev two : CallerLog
  two = caller_log tk' gs' sn' 0 0

  pub pairs_both : (id other : ℕ) → Joins Kept id (caller_view one) other (caller_view two) (pair_view one two) nobody
  pairs_both id other s r at apart there =
      let v : View = caller_view one in let w : View = caller_view two in let u : View = pair_view one two in let t = r.3 in let n : ℕ = length tk in
      let taker' : Takers = λ c g. behind_to other id n (r.2 c g) in
      let was : get_elem? s.views other ≡ some w = sym (set_else s.views id other u apart) ∙ there in let theirs = t.each_seat other w was in let mine = t.each_seat id v at in
      let joined : (x : Ticket) → IsGivenUp s.views x → IsGivenUp (set (set s.views id u) other nobody) x =
      λ x. given_joined s.views id other v w u nobody x at was apart (λ y h. (h.0, at_longer gs gs' h.0 y h.1)) (λ y h. (length gs + h.0, at_behind gs gs' h.0 y h.1)) in (
        r.0,
        r.1,
        taker',
        record {
          wide = t.wide;
          each_cell = t.each_cell;
          each_arm = t.each_arm;
          each_fill = t.each_fill;
          each_cycle = t.each_cycle;
          each_wait = λ x has un. wait_by s.words s.views (set (set s.views id u) other nobody) x (joined x) (t.each_wait x has un);
          each_refusal = λ i x h. joined x (t.each_refusal i x h);
          each_seat = seats_stay (SeatOk r.0 r.1 taker' s.words) (set s.views id u) other nobody (nobody_ok r.0 r.1 taker' s.words other)
              (λ j x away e. ⊎_elim
              (λ (q : (j ≡ id) × (u ≡ x)). subst (λ (y : ℕ × View). SeatOk r.0 r.1 taker' s.words y.0 y.1) (λ z. (sym q.0 z, q.1 z)) record {
                core = λ y. off y;
                takes = λ i e' h. ⊎_elim
                    (λ (old : get_elem? tk i ≡ some e'). let p = mine.takes i e' old in (p.0, behind_not other id n _ (λ z. apart (sym z ∙ ap (λ (y : ℕ × ℕ). y.0) p.1)) ∙ p.1, p.2))
                    (λ (new : Behind tk tk' i e'). let p = theirs.takes new.0 e' new.2 in (p.0, behind_there other id n _ new.0 p.1 ∙ ap (λ (k : ℕ). let y : ℕ × ℕ = (id, k) in y) (sym new.1), p.2))
                    (at_either tk tk' i e' h);
                gives = λ i y h. ⊎_elim (λ (old : get_elem? gs i ≡ some y). mine.gives i y old) (λ (new : Behind gs gs' i y). theirs.gives new.0 y new.2) (at_either gs gs' i y h);
                seen = λ i y h. ⊎_elim (λ (old : get_elem? sn i ≡ some y). mine.seen i y old) (λ (new : Behind sn sn' i y). theirs.seen new.0 y new.2) (at_either sn sn' i y h);
                hand = λ k is. absurd (omega arith);
              })
              (λ (q : (j ≢ id) × (get_elem? s.views j ≡ some x)). elsewhere r.0 r.1 r.2 s.words other j x (behind_to other id n) (behind_not other id n) away (t.each_seat j x q.1))
              (at_set s.views id j u x e));
        },
      )

  pub pairs_as : (id other : ℕ) (m n : Sat) → m ≡ caller_sat tk gs sn 0 0 [] → n ≡ caller_sat tk' gs' sn' 0 0 [] → Joins Kept id m.0 other n.0 (paired m.0 n.0) nobody
  pairs_as id other m n e f = subst (λ (x : Sat × Sat). Joins Kept id x.0.0 other x.1.0 (paired x.0.0 x.1.0) nobody) (λ i. (sym e i, sym f i)) (pairs_both id other)

  -- one seat with both callers' views
  pub paired_as : (m n m' : Sat) → m ≡ caller_sat tk gs sn 0 0 [] → n ≡ caller_sat tk' gs' sn' 0 0 [] → m' ≡ (paired m.0 n.0, m.1) → m' ≡ (pair_view one two, [])
  paired_as m n m' e f g = g ∙ (λ i. (paired (e i).0 (f i).0, (e i).1))

  pub separates_as : (slots id k : ℕ) (m : Sat) → m ≡ (pair_view one two, []) → Allows Kept slots id m k (λ n. n) (held_apart (step slots k 0 0 maybe.none) m)
  separates_as slots id k m is = let u : View = pair_view one two in subst (λ (x : Sat). Allows Kept slots id x k (λ n. n) (held_apart (step slots k 0 0 maybe.none) x)) (sym is) (λ s r long at _.
      let ok = r.3.each_seat id u at in
      let given_not : (i i' : ℕ) (e : Entry) (t : Ticket) → get_elem? (tk ++ tk') i ≡ some e → get_elem? (gs ++ gs') i' ≡ some t → e.0 ≢ t =
      λ i i' e t h h' same. (ok.gives i' t h').0 e.1 (subst (λ (y : Ticket). Has r.1.fills (y, e.1)) same (ok.takes i e h).0) in (
        u,
        keeps,
        tt,
        still s r k id [] u at,
        (
          refl,
          (
            (λ i i' e e' h h' same.
                let first = (ok.takes i e (at_longer tk tk' i e h)).1 in let second = (ok.takes (length tk + i') e' (at_behind tk tk' i' e' h')).1 in
                let one_place : i ≡ length tk + i' = ap (λ (x : ℕ × ℕ). x.1) (sym first ∙ (ap (λ (x : Ticket). r.2 x.cell x.generation) same ∙ second)) in
                let within : i < length tk = at_inside tk i e h in absurd (omega arith)),
            (λ i i' e t h h'. given_not i (length gs + i') e t (at_longer tk tk' i e h) (at_behind gs gs' i' t h')),
            λ i i' t e h h' same. given_not (length tk + i') i e t (at_behind tk tk' i' e h') (at_longer gs gs' i t h) (sym same),
          ),
        ),
      ))

  pub unpairs_as : (id : ℕ) (m : Sat) → m ≡ (pair_view one two, []) → Splits Kept id m.0 (one_part m.0) (other_part m.0)
  unpairs_as id m is = subst (λ (x : Sat). Splits Kept id x.0 (one_part x.0) (other_part x.0)) (sym is) (λ s r at.
      let u : View = pair_view one two in let v : View = caller_view one in let w : View = caller_view two in let t = r.3 in let n : ℕ = length (set s.views id v) in let k : ℕ = length tk in
      let taker' : Takers = λ c g. from_to id n k (r.2 c g) in let mine = t.each_seat id u at in
      let shared : (x : Ticket) → IsGivenUp s.views x → IsGivenUp (set s.views id v ++ w ∷ []) x =
      λ x. given_shared s.views id u v w x at (λ has. ⊎_elim (λ (old : get_elem? gs has.0 ≡ some x). inl (has.0, old)) (λ (new : Behind gs gs' has.0 x). inr (new.0, new.2)) (at_either gs gs' has.0 x has.1)) in (
        r.0,
        r.1,
        taker',
        record {
          wide = t.wide;
          each_cell = t.each_cell;
          each_arm = t.each_arm;
          each_fill = t.each_fill;
          each_cycle = t.each_cycle;
          each_wait = λ x has un. wait_by s.words s.views (set s.views id v ++ w ∷ []) x (shared x) (t.each_wait x has un);
          each_refusal = λ i x h. shared x (t.each_refusal i x h);
          each_seat = λ j x e. ⊎_elim
              (λ was. seats_stay (SeatOk r.0 r.1 taker' s.words) s.views id v
              record {
                core = λ y. off y;
                takes = λ i e' h. let p = mine.takes i e' (at_longer tk tk' i e' h) in (p.0, from_before id n k _ i (at_inside tk i e' h) p.1, p.2);
                gives = λ i y h. mine.gives i y (at_longer gs gs' i y h);
                seen = λ i y h. mine.seen i y (at_longer sn sn' i y h);
                hand = λ c h. absurd (omega arith);
              }
              (λ j' x' away h. elsewhere r.0 r.1 r.2 s.words id j' x' (from_to id n k) (from_not id n k) away (t.each_seat j' x' h)) j x was)
              (λ (q : (j ≡ n) × (w ≡ x)). subst (λ (y : ℕ × View). SeatOk r.0 r.1 taker' s.words y.0 y.1) (λ z. (sym q.0 z, q.1 z)) record {
                core = λ y. off y;
                takes = λ i e' h. let p = mine.takes (k + i) e' (at_behind tk tk' i e' h) in (p.0, from_there id n k _ i p.1, p.2);
                gives = λ i y h. mine.gives (length gs + i) y (at_behind gs gs' i y h);
                seen = λ i y h. mine.seen (length sn + i) y (at_behind sn sn' i y h);
                hand = λ c h. absurd (omega arith);
              })
              (at_snoc_index (set s.views id v) w x j e);
        },
      ))
