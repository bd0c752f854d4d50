-- What an event leaves of what clients called and sent, by what it leaves of one client, of
-- logs and of circuits.
use Rattle.std.proofs.Common.{◌≡◌, ℕ, zero, suc, ◌+◌, ◌⊎◌, inl, inr, Bool, true, false, ◌&&◌, cond, eqb, List, [], ◌∷◌, ◌++◌, length, Option, Some, None, refl, sym, ap, ◌∙◌, subst}
use Rattle.std.specs.Prelude.{filter, map, option_map, slice_get, slice_set, unwrap_or}
use Rattle.std.proofs.lemmas.Bool.{and_parts, both_ways, eqb-true}
use Rattle.std.proofs.lemmas.List.{append-nil}
use Rattle.ca_text.specs.Place.{At}
use Rattle.ca_text.proofs.Places.{At-mapped, At-one, At-parts, At-set, At-set-other, At-within, some_is}
use Rattle.ca_arena.specs.declared.handle.Handle.{Handle}
use Rattle.ca_ids.specs.Table.{same_handle}
use Rattle.ca_model.specs.Answers.{Sending}
use Rattle.ca_model.specs.History.{Called, Circuit, Intent, Line, Sent, Wish}
use Rattle.ca_model.specs.Server.{Server}
use Rattle.ca_model.specs.Channels.{IsRequest}
use Rattle.ca_model.proofs.Handles.{same-is, same-itself}
use Rattle.ca_model.proofs.Thinner.{number-or, set-there}
use Rattle.ca_model.specs.ClientEvents.{Outcomes, client_after, client_closed, intent_of, sent_on}
use Rattle.ca_model.specs.ServerEvents.{ending, server_after, server_closed}
use Rattle.ca_model.specs.World.{ClientSide, Joined, Names, ServerSide, World, grown, with_lines}
use Rattle.ca_laws_parts.proofs.Marks.{at-filter}
use Rattle.ca_laws_parts.specs.Circuit.{HaveHandles, sent_to, stamped}
use Rattle.ca_laws_parts.proofs.Handled.{Like}
use Rattle.ca_laws_runs.proofs.OnceCalls.{Calls, IsUsed, NoCall, NoRequest}

-- What clients called and sent: each has a life of its own, whose log is there, and open ends are
-- of their client's life. What a life's log tells of was called; so was each request that was sent
-- on a circuit of that life. No log has a call twice, and no request is at two places.
pub record OnceStand (w : World) : Type 0 where
  pub there : (i : ℕ) (x : ClientSide) → At w.clients i x → (log : List Line) × At w.client_logs x.life log
  pub apart : (i l : ℕ) (x y : ClientSide) → At w.clients i x → At w.clients l y → x.life ≡ y.life → i ≡ l
  pub ends : (k : ℕ) (j : Joined) (x : ClientSide) → At w.circuits k j → At w.clients j.client x → j.lists.client_open ≡ true → j.lists.client ≡ x.life
  pub lives : (k : ℕ) (j : Joined) → At w.circuits k j → (log : List Line) × At w.client_logs j.lists.client log
  pub called : (i : ℕ) (x : ClientSide) (log : List Line) (p : ℕ) (intent : Intent) (e : Wish) → At w.clients i x → At w.client_logs x.life log → At log p (Called intent e)
      → IsUsed x.names x.core intent
  pub once : (life : ℕ) (log : List Line) (p q : ℕ) (intent : Intent) (e f : Wish) → At w.client_logs life log → At log p (Called intent e) → At log q (Called intent f) → p ≡ q
  pub said : (k i p : ℕ) (j : Joined) (x : ClientSide) (s : Sent) → At w.circuits k j → At w.clients i x → j.lists.client ≡ x.life → At j.lists.up p s → IsRequest s.intent → IsUsed x.names x.core s.intent
  pub one : (k l p q : ℕ) (a b : Joined) (r s : Sent) → At w.circuits k a → At w.circuits l b → a.lists.client ≡ b.lists.client → At a.lists.up p r → At b.lists.up q s → r.intent ≡ s.intent → IsRequest r.intent
      → (k ≡ l) × (p ≡ q)

-- ---- ends of circuits

-- It is an end of the same client and life under the same handle; if it is open it was, and these
-- were sent there since.
pub record IsEndAfter (i : ℕ) (n : Names) (sent : List Sending) (a j : Joined) : Type 0 where
  pub client : j.client ≡ a.client
  pub life : j.lists.client ≡ a.lists.client
  pub opens : j.lists.client_open ≡ true → a.lists.client_open ≡ true
  pub up : j.lists.up ≡ a.lists.up ++ sent_on i n sent a

-- nothing was
pub record IsSameEnd (a j : Joined) : Type 0 where
  pub client : j.client ≡ a.client
  pub life : j.lists.client ≡ a.lists.client
  pub opens : j.lists.client_open ≡ true → a.lists.client_open ≡ true
  pub up : j.lists.up ≡ a.lists.up

pub same-end : (a : Joined) → IsSameEnd a a
same-end a = record { client = refl; life = refl; opens = λ o. o; up = refl }

pub same-then : (a b c : Joined) → IsSameEnd a b → IsSameEnd b c → IsSameEnd a c
same-then a b c f g = record { client = g.client ∙ f.client; life = g.life ∙ f.life; opens = λ o. f.opens (g.opens o); up = g.up ∙ f.up }

pub same-closed : (left : List ℕ) (a : Joined) → IsSameEnd a (client_closed left a)
same-closed left a = record { client = refl; life = refl; opens = λ o. absurd (both_ways false refl o); up = refl }

pub same-like : (a j : Joined) → Like a j → IsSameEnd a j
same-like a j like = record {
  client = like.2;
  life = ap (λ (c : Circuit). c.client) like.0;
  opens = λ o. sym (ap (λ (c : Circuit). c.client_open) like.0) ∙ o;
  up = ap (λ (c : Circuit). c.up) like.0;
}

pub same-ending : (ends : Joined → Option (List ℕ)) (a : Joined) → IsSameEnd a (ending ends a)
same-ending ends a = go (ends a)
  where
    go : (o : Option (List ℕ)) → IsSameEnd a (unwrap_or (option_map (λ (left : List ℕ). server_closed left a) o) a)
    go (Some left) = record { client = refl; life = refl; opens = λ o. o; up = refl }
    go None = same-end a

-- each end was there so
abbrev pub AllSame : List Joined → List Joined → Type 0
AllSame was now = (k : ℕ) (j : Joined) → At now k j → (a : Joined) × At was k a × IsSameEnd a j

pub all-same : (was : List Joined) → AllSame was was
all-same was k j at = (j, at, same-end j)

pub all-then : (a b c : List Joined) → AllSame a b → AllSame b c → AllSame a c
all-then a b c f g k j at =
    let m = g k j at in
    let n = f k m.0 m.1 in
    (n.0, n.1, same-then n.0 m.0 j n.2 m.2)

pub all-map : (f : Joined → Joined) (was : List Joined) → ((a : Joined) → IsSameEnd a (f a)) → AllSame was (map f was)
all-map f was ends k j at = (let m = At-mapped f was k j at in (m.0, m.1, subst (λ (z : Joined). IsSameEnd m.0 z) (sym m.2) (ends m.0)))

pub all-set : (k : ℕ) (a new : Joined) (was : List Joined) → At was k a → IsSameEnd a new → AllSame was (slice_set was k new)
all-set k a new was at end l j there = elim (At-set was k new l j there) [
  | inl here ↦ (a, subst (λ (z : ℕ). At was z a) (sym here.0) at, subst (λ (z : Joined). IsSameEnd a z) (sym here.1) end)
  | inr old ↦ (j, old.0, same-end j)
]

-- ---- a world after an event

-- no client changes, nothing is logged and nothing is sent
pub once-same : (w new : World) → new.clients ≡ w.clients → new.client_logs ≡ w.client_logs → AllSame w.circuits new.circuits → OnceStand w → OnceStand new
once-same w new same logs all s = record {
  there = λ i x at. (let t = s.there i x (was i x at) in (t.0, subst (λ (l : List (List Line)). At l x.life t.0) (sym logs) t.1));
  apart = λ i l x y at also e. s.apart i l x y (was i x at) (was l y also) e;
  ends = λ k j x at there opened.
      let p = all k j at in
      p.2.life ∙ s.ends k p.0 x p.1 (subst (λ (z : ℕ). At w.clients z x) p.2.client (was j.client x there)) (p.2.opens opened);
  lives = λ k j at.
      let p = all k j at in
      let t = s.lives k p.0 p.1 in
      (t.0, subst (λ (l : List (List Line)). At l j.lists.client t.0) (sym logs) (subst (λ (z : ℕ). At w.client_logs z t.0) (sym p.2.life) t.1));
  called = λ i x log p intent e at there line. s.called i x log p intent e (was i x at) (old x.life log there) line;
  once = λ life log p q intent e f at a b. s.once life log p q intent e f (old life log at) a b;
  said = λ k i p j x r at there mine place is.
      let a = all k j at in
      s.said k i p a.0 x r a.1 (was i x there) (sym a.2.life ∙ mine) (subst (λ (l : List Sent). At l p r) a.2.up place) is;
  one = λ k l p q a b r t at also mine first second same_intent is.
      let f = all k a at in
      let g = all l b also in
      s.one k l p q f.0 g.0 r t f.1 g.1 (sym f.2.life ∙ mine ∙ g.2.life) (subst (λ (l : List Sent). At l p r) f.2.up first) (subst (λ (l : List Sent). At l q t) g.2.up second) same_intent is;
}
  where
    was : (i : ℕ) (x : ClientSide) → At new.clients i x → At w.clients i x
    was i x at = subst (λ (l : List ClientSide). At l i x) same at

    old : (life : ℕ) (log : List Line) → At new.client_logs life log → At w.client_logs life log
    old life log at = subst (λ (l : List (List Line)). At l life log) logs at

-- ---- what is sent on one circuit

-- each comes from one that was sent, on an open end of that client under that handle
pub on-circuit-sent : (i : ℕ) (n : Names) (sent : List Sending) (a : Joined) (q : ℕ) (r : Sent) → At (sent_on i n sent a) q r
    → (a.client ≡ i) × (a.lists.client_open ≡ true) × ((m : ℕ) × (s : Sending) × At sent m s × (same_handle s.circuit a.at_client ≡ true) × (r ≡ stamped n s))
on-circuit-sent i n sent a q r at = go (eqb a.client i && a.lists.client_open) refl at
  where
    go : (b : Bool) → (eqb a.client i && a.lists.client_open) ≡ b → At (cond b (map (stamped n) (filter (λ (s : Sending). same_handle s.circuit a.at_client) sent)) []) q r
        → (a.client ≡ i) × (a.lists.client_open ≡ true) × ((m : ℕ) × (s : Sending) × At sent m s × (same_handle s.circuit a.at_client ≡ true) × (r ≡ stamped n s))
    go true is at =
        let both = and_parts (eqb a.client i) a.lists.client_open is in
        let m = At-mapped (stamped n) (filter (λ (s : Sending). same_handle s.circuit a.at_client) sent) q r at in
        let f = at-filter (λ (s : Sending). same_handle s.circuit a.at_client) sent q m.0 m.1 in
        (eqb-true a.client i both.0, both.1, (f.0, m.0, f.1, f.2, m.2))
    go false is at = absurd cc

-- one that is sent alone is first
pub alone-first : (i : ℕ) (n : Names) (s : Sending) (a : Joined) (q : ℕ) (r : Sent) → At (sent_on i n (s ∷ []) a) q r → q ≡ 0
alone-first i n s a q r at = go (eqb a.client i && a.lists.client_open) (same_handle s.circuit a.at_client) q at
  where
    go : (b c : Bool) (q : ℕ) → At (cond b (map (stamped n) (cond c (s ∷ []) [])) []) q r → q ≡ 0
    go true true zero at = refl
    go true true (suc q) at = absurd cc
    go true false q at = absurd cc
    go false c q at = absurd cc

alone-is : (s r : Sending) (m : ℕ) → At (s ∷ []) m r → r ≡ s
alone-is s r zero at = sym (some_is s r at)
alone-is s r (suc m) at = absurd cc

-- ---- one client changes

-- how the logs of a life and of the others are
abbrev pub LogsAfter : (was now : List (List Line)) → (life : ℕ) → (lines : List Line) → Type 0
LogsAfter was now life lines =
    ((l : ℕ) (log : List Line) → At now l log → ((l ≡ life) × ((old : List Line) × At was l old × (log ≡ old ++ lines))) ⊎ (At was l log × (l ≡ life → ⊥)))
    × ((l : ℕ) (old : List Line) → At was l old → (log : List Line) × At now l log)

module _ (w new : World) (i : ℕ) (x z : ClientSide) (spoken : Names) (sent : List Sending) (lines : List Line) (at_x : At w.clients i x)
    (clients : (l : ℕ) (y : ClientSide) → At new.clients l y → ((l ≡ i) × (y ≡ z)) ⊎ (At w.clients l y × (l ≡ i → ⊥)))
    (life : z.life ≡ x.life) (logs : LogsAfter w.client_logs new.client_logs x.life lines)
    (after : (k : ℕ) (j : Joined) → At new.circuits k j → (a : Joined) × At w.circuits k a × IsEndAfter i spoken sent a j)
    (calls : Calls x.names x.core spoken sent lines z.names z.core) (alone : HaveHandles w ⊎ NoRequest spoken sent) (s : OnceStand w) where
  -- its life, and the lives of others
  life-of : (l : ℕ) (y : ClientSide) → At new.clients l y → ((l ≡ i) × (y ≡ z)) ⊎ (At w.clients l y × ((l ≡ i → ⊥) × (y.life ≡ x.life → ⊥)))
  life-of l y at = elim (clients l y at) [
    | inl here ↦ inl here
    | inr old ↦ inr (old.0, (old.1, λ e. old.1 (s.apart l i y x old.0 at_x e)))
  ]

  -- the message that was sent now is of that life, and if it is a request it is the one
  new-message : (k : ℕ) (a : Joined) (q : ℕ) (r : Sent) → At w.circuits k a → At (sent_on i spoken sent a) q r → IsRequest r.intent
      → (a.lists.client ≡ x.life) × (IsUsed x.names x.core r.intent → ⊥) × IsUsed z.names z.core r.intent
  new-message k a q r at place is =
      let c = on-circuit-sent i spoken sent a q r place in
      let m = c.2 in
      let owns : a.lists.client ≡ x.life = s.ends k a x at (subst (λ (n : ℕ). At w.clients n x) (sym c.0) at_x) c.1 in
      elim calls.sends [
        | inl none ↦ absurd (none m.0 m.1 m.2 (subst (λ (v : Sent). IsRequest v.intent) m.4 is))
        | inr one ↦
            let only : m.1 ≡ one.0 = alone-is one.0 m.1 m.0 (subst (λ (l : List Sending). At l m.0 m.1) one.1 m.2) in
            let meant : r.intent ≡ intent_of spoken (one.0).aim = ap (λ (v : Sent). v.intent) m.4 ∙ ap (λ (v : Sending). intent_of spoken v.aim) only in
            (owns, λ u. one.2 (subst (λ (v : Intent). IsUsed x.names x.core v) meant u), subst (λ (v : Intent). IsUsed z.names z.core v) (sym meant) one.3)
      ]

  -- a request that was sent now is not at two places
  new-one : (k l p q : ℕ) (a b : Joined) (r t : Sent) → At w.circuits k a → At w.circuits l b → At (sent_on i spoken sent a) p r → At (sent_on i spoken sent b) q t → IsRequest r.intent → (k ≡ l) × (p ≡ q)
  new-one k l p q a b r t at also first second is =
      let c = on-circuit-sent i spoken sent a p r first in
      let d = on-circuit-sent i spoken sent b q t second in
      let m = c.2 in
      let n = d.2 in
      let not_none : NoRequest spoken sent → ⊥ = λ none. none m.0 m.1 m.2 (subst (λ (v : Sent). IsRequest v.intent) m.4 is) in
      elim calls.sends [
        | inl none ↦ absurd (not_none none)
        | inr one ↦ elim alone [
          | inr none ↦ absurd (not_none none)
          | inl handles ↦
              let f : m.1 ≡ one.0 = alone-is one.0 m.1 m.0 (subst (λ (v : List Sending). At v m.0 m.1) one.1 m.2) in
              let g : n.1 ≡ one.0 = alone-is one.0 n.1 n.0 (subst (λ (v : List Sending). At v n.0 n.1) one.1 n.2) in
              let one_handle : a.at_client ≡ b.at_client = sym (same-is (m.1).circuit a.at_client m.3) ∙ ap (λ (v : Sending). v.circuit) (f ∙ sym g) ∙ same-is (n.1).circuit b.at_client n.3 in
              let p_is : p ≡ 0 = alone-first i spoken one.0 a p r (subst (λ (v : List Sending). At (sent_on i spoken v a) p r) one.1 first) in
              let q_is : q ≡ 0 = alone-first i spoken one.0 b q t (subst (λ (v : List Sending). At (sent_on i spoken v b) q t) one.1 second) in
              (handles k l a b at also (c.0 ∙ sym d.0) c.1 d.1 (subst (λ (h : Handle). same_handle a.at_client h ≡ true) one_handle (same-itself a.at_client)), p_is ∙ sym q_is)
        ]
      ]

  -- one that was sent before was not sent again
  old-new : (k l p q : ℕ) (a b : Joined) (r t : Sent) → At w.circuits k a → At w.circuits l b → a.lists.client ≡ b.lists.client → At a.lists.up p r → At (sent_on i spoken sent b) q t → r.intent ≡ t.intent → IsRequest r.intent → ⊥
  old-new k l p q a b r t at also mine first second same_intent is =
      let n = new-message l b q t also second (subst (λ (v : Intent). IsRequest v) same_intent is) in
      n.1 (subst (λ (v : Intent). IsUsed x.names x.core v) same_intent (s.said k i p a x r at at_x (mine ∙ n.0) first is))

  pub once-moved : OnceStand new
  once-moved = record {
    there = λ l y at. elim (life-of l y at) [
      | inl here ↦
          let t = s.there i x at_x in
          let u = logs.1 x.life t.0 t.1 in
          (u.0, subst (λ (n : ℕ). At new.client_logs n u.0) (sym (ap (λ (v : ClientSide). v.life) here.1 ∙ life)) u.1)
      | inr old ↦ (let t = s.there l y old.0 in logs.1 y.life t.0 t.1)
    ];
    apart = λ l m y v at also e. elim (life-of l y at) [
      | inl here ↦ elim (life-of m v also) [
        | inl too ↦ here.0 ∙ sym too.0
        | inr old ↦ absurd (old.1.1 (sym e ∙ ap (λ (v : ClientSide). v.life) here.1 ∙ life))
      ]
      | inr was ↦ elim (life-of m v also) [
        | inl too ↦ absurd (was.1.1 (e ∙ ap (λ (v : ClientSide). v.life) too.1 ∙ life))
        | inr old ↦ s.apart l m y v was.0 old.0 e
      ]
    ];
    ends = λ k j y at there opened.
        let p = after k j at in
        elim (life-of j.client y there) [
          | inl here ↦ p.2.life ∙ s.ends k p.0 x p.1 (subst (λ (n : ℕ). At w.clients n x) (sym here.0 ∙ p.2.client) at_x) (p.2.opens opened) ∙ sym (ap (λ (v : ClientSide). v.life) here.1 ∙ life)
          | inr old ↦ p.2.life ∙ s.ends k p.0 y p.1 (subst (λ (n : ℕ). At w.clients n y) p.2.client old.0) (p.2.opens opened)
        ];
    lives = λ k j at.
        let p = after k j at in
        let t = s.lives k p.0 p.1 in
        let u = logs.1 p.0.lists.client t.0 t.1 in
        (u.0, subst (λ (n : ℕ). At new.client_logs n u.0) (sym p.2.life) u.1);
    called = λ l y log p intent e at there line. elim (life-of l y at) [
      | inl here ↦
          let mine : y.life ≡ x.life = ap (λ (v : ClientSide). v.life) here.1 ∙ life in
          subst (λ (v : ClientSide). IsUsed v.names v.core intent) (sym here.1)
          (elim (logs.0 x.life log (subst (λ (n : ℕ). At new.client_logs n log) mine there)) [
            | inl grew ↦ elim (At-parts grew.1.0 lines p (Called intent e) (subst (λ (v : List Line). At v p (Called intent e)) grew.1.2 line)) [
              | inl first ↦ calls.olds intent (s.called i x grew.1.0 p intent e at_x grew.1.1 first)
              | inr later ↦ (calls.lines_new later.0 intent e later.2).2
            ]
            | inr other ↦ absurd (other.1 refl)
          ])
      | inr old ↦ elim (logs.0 y.life log there) [
        | inl grew ↦ absurd (old.1.1 grew.0)
        | inr other ↦ s.called l y log p intent e old.0 other.0 line
      ]
    ];
    once = λ l log p q intent e f at a b. elim (logs.0 l log at) [
      | inr other ↦ s.once l log p q intent e f other.0 a b
      | inl grew ↦
          let old : List Line = grew.1.0 in
          let mine : At w.client_logs x.life old = subst (λ (n : ℕ). At w.client_logs n old) grew.0 grew.1.1 in
          elim (At-parts old lines p (Called intent e) (subst (λ (v : List Line). At v p (Called intent e)) grew.1.2 a)) [
            | inl first ↦ elim (At-parts old lines q (Called intent f) (subst (λ (v : List Line). At v q (Called intent f)) grew.1.2 b)) [
              | inl second ↦ s.once x.life old p q intent e f mine first second
              | inr later ↦ absurd ((calls.lines_new later.0 intent f later.2).1 (s.called i x old p intent e at_x mine first))
            ]
            | inr before ↦ elim (At-parts old lines q (Called intent f) (subst (λ (v : List Line). At v q (Called intent f)) grew.1.2 b)) [
              | inl second ↦ absurd ((calls.lines_new before.0 intent e before.2).1 (s.called i x old q intent f at_x mine second))
              | inr later ↦
                  let m : before.0 ≡ 0 = (calls.lines_new before.0 intent e before.2).0 in
                  let n : later.0 ≡ 0 = (calls.lines_new later.0 intent f later.2).0 in
                  before.1 ∙ ap (λ (v : ℕ). length old + v) (m ∙ sym n) ∙ sym later.1
            ]
          ]
    ];
    said = λ k l p j y r at there mine place is.
        let a = after k j at in
        elim (At-parts (a.0).lists.up (sent_on i spoken sent a.0) p r (subst (λ (v : List Sent). At v p r) a.2.up place)) [
          | inl first ↦ elim (life-of l y there) [
            | inl here ↦
                let owns : (a.0).lists.client ≡ x.life = sym a.2.life ∙ mine ∙ ap (λ (v : ClientSide). v.life) here.1 ∙ life in
                subst (λ (v : ClientSide). IsUsed v.names v.core r.intent) (sym here.1) (calls.olds r.intent (s.said k i p a.0 x r a.1 at_x owns first is))
            | inr old ↦ s.said k l p a.0 y r a.1 old.0 (sym a.2.life ∙ mine) first is
          ]
          | inr later ↦
              let n = new-message k a.0 later.0 r a.1 later.2 is in
              elim (life-of l y there) [
                | inl here ↦ subst (λ (v : ClientSide). IsUsed v.names v.core r.intent) (sym here.1) n.2
                | inr old ↦ absurd (old.1.1 (sym mine ∙ a.2.life ∙ n.0))
              ]
        ];
    one = λ k l p q a b r t at also mine first second same_intent is.
        let f = after k a at in
        let g = after l b also in
        let both : (f.0).lists.client ≡ (g.0).lists.client = sym f.2.life ∙ mine ∙ g.2.life in
        let is_too : IsRequest t.intent = subst (λ (v : Intent). IsRequest v) same_intent is in
        elim (At-parts (f.0).lists.up (sent_on i spoken sent f.0) p r (subst (λ (v : List Sent). At v p r) f.2.up first)) [
          | inl early ↦ elim (At-parts (g.0).lists.up (sent_on i spoken sent g.0) q t (subst (λ (v : List Sent). At v q t) g.2.up second)) [
            | inl too ↦ s.one k l p q f.0 g.0 r t f.1 g.1 both early too same_intent is
            | inr late ↦ absurd (old-new k l p late.0 f.0 g.0 r t f.1 g.1 both early late.2 same_intent is)
          ]
          | inr late ↦ elim (At-parts (g.0).lists.up (sent_on i spoken sent g.0) q t (subst (λ (v : List Sent). At v q t) g.2.up second)) [
            | inl too ↦ absurd (old-new l k q late.0 g.0 f.0 t r g.1 f.1 (sym both) too late.2 (sym same_intent) is_too)
            | inr also_late ↦
                let n = new-one k l late.0 also_late.0 f.0 g.0 r t f.1 g.1 late.2 also_late.2 is in
                let one_circuit : f.0 ≡ g.0 = At-one w.circuits l f.0 g.0 (subst (λ (v : ℕ). At w.circuits v f.0) n.0 f.1) g.1 in
                (n.0, late.1 ∙ ap (λ (v : Joined). length v.lists.up + late.0) one_circuit ∙ ap (λ (v : ℕ). length (g.0).lists.up + v) n.1 ∙ sym also_late.1)
          ]
        ];
  }

-- ---- calls of clients and servers

-- a log that grew, and the others
pub logs-grown : (was : List (List Line)) (life : ℕ) (lines log : List Line) → At was life log → LogsAfter was (grown life lines was) life lines
logs-grown was life lines log at = (
  λ l now there. elim (At-set was life (unwrap_or (slice_get was life) [] ++ lines) l now there) [
    | inl here ↦ inl (here.0, (log, subst (λ (n : ℕ). At was n log) (sym here.0) at, here.1 ∙ ap (λ (o : Option (List Line)). unwrap_or o [] ++ lines) at))
    | inr old ↦ inr old
  ],
  λ l old there. elim (number-or l life) [
    | inl same ↦
        let more : List Line = unwrap_or (slice_get was life) [] ++ lines in
        (more, subst (λ (n : ℕ). At (slice_set was life more) n more) (sym same) (set-there was life more (At-within was life log at)))
    | inr other ↦ (old, At-set-other was life l old (unwrap_or (slice_get was life) [] ++ lines) there other)
  ],
)

-- nothing is logged
pub logs-still : (was : List (List Line)) (life : ℕ) → LogsAfter was was life []
logs-still was life = (
  λ l now there. elim (number-or l life) [
    | inl same ↦ inl (same, (now, there, sym (append-nil now)))
    | inr other ↦ inr (there, other)
  ],
  λ l old there. (old, there),
)

pub after-sent : (i : ℕ) (n : Names) (sent : List Sending) (was : List Joined) (k : ℕ) (j : Joined) → At (map (sent_to i n sent) was) k j → (a : Joined) × At was k a × IsEndAfter i n sent a j
after-sent i n sent was k j at =
    let m = At-mapped (sent_to i n sent) was k j at in
    (m.0, m.1, subst (λ (z : Joined). IsEndAfter i n sent m.0 z) (sym m.2) (record { client = refl; life = refl; opens = λ o. o; up = refl }))

-- a call of client i
pub once-called : (w : World) (i : ℕ) (x : ClientSide) (spoken : Names) (o : Outcomes) → At w.clients i x → Calls x.names x.core spoken o.sent o.lines o.names o.core → HaveHandles w ⊎ NoRequest spoken o.sent → OnceStand w → OnceStand (client_after i x spoken o w)
once-called w i x spoken o at calls alone s =
    let z : ClientSide = record x { core = o.core; names = o.names } in
    let t = s.there i x at in
    once-moved w (client_after i x spoken o w) i x z spoken o.sent o.lines at (λ l y there. At-set w.clients i z l y there) refl (logs-grown w.client_logs x.life o.lines t.0 t.1) (after-sent i spoken o.sent w.circuits) calls alone s

nothing-sent : (i : ℕ) (n : Names) (a : Joined) → IsEndAfter i n [] a a
nothing-sent i n a = record { client = refl; life = refl; opens = λ o. o; up = by (eqb a.client i && a.lists.client_open) }
  where
    by : (b : Bool) → a.lists.up ≡ a.lists.up ++ cond b [] []
    by true = sym (append-nil a.lists.up)
    by false = sym (append-nil a.lists.up)

-- a client's core alone changes
pub once-core : (w new : World) (i : ℕ) (x z : ClientSide) → At w.clients i x → new.clients ≡ slice_set w.clients i z → z.life ≡ x.life → new.client_logs ≡ w.client_logs → new.circuits ≡ w.circuits → Calls x.names x.core x.names [] [] z.names z.core → NoRequest x.names [] → OnceStand w → OnceStand new
once-core w new i x z at clients life logs circuits calls none s =
    once-moved w new i x z x.names [] [] at (λ l y there. At-set w.clients i z l y (subst (λ (c : List ClientSide). At c l y) clients there)) life
    (subst (λ (v : List (List Line)). LogsAfter w.client_logs v x.life []) (sym logs) (logs-still w.client_logs x.life))
    (λ k j there. (j, subst (λ (c : List Joined). At c k j) circuits there, nothing-sent i x.names j)) calls (inr none) s

-- lines are logged by which nothing is called
pub once-lines : (w : World) (i : ℕ) (x : ClientSide) (lines : List Line) → At w.clients i x → NoCall lines → OnceStand w → OnceStand (with_lines x.life lines w)
once-lines w i x lines at none s =
    let t = s.there i x at in
    once-moved w (with_lines x.life lines w) i x x x.names [] lines at
    (λ l y there. elim (number-or l i) [
      | inl same ↦ inl (same, At-one w.clients i y x (subst (λ (n : ℕ). At w.clients n y) same there) at)
      | inr other ↦ inr (there, other)
    ]) refl (logs-grown w.client_logs x.life lines t.0 t.1) (λ k j there. (j, there, nothing-sent i x.names j))
    (record { olds = λ intent u. u; lines_new = λ p intent e line. absurd (none p intent e line); sends = inl (λ m r place is. nowhere m r place); asks = λ p intent e line is. absurd (none p intent e line) })
    (inr (λ m r place is. nowhere m r place)) s
  where
    nowhere : (m : ℕ) (r : Sending) → (let l : List Sending = [] in At l m r) → ⊥
    nowhere m r place = cc

-- a call of a server
pub once-server : (w : World) (i : ℕ) (y : ServerSide) (ends : Joined → Option (List ℕ)) (core : Server) → OnceStand w → OnceStand (server_after i y ends core w)
once-server w i y ends core s = once-same w (server_after i y ends core w) refl refl (all-map (ending ends) w.circuits (same-ending ends)) s
