-- An event at a server keeps what holds of the writes of a world.
use Rattle.std.proofs.Common.{◌≡◌, ℕ, zero, suc, ◌<◌, ◌⊎◌, inl, inr, Bool, true, false, List, [], ◌∷◌, ◌++◌, length, Option, Some, refl, sym, ap, subst, ◌∙◌, arith}
use Rattle.ca_text.specs.Place.{At}
use Rattle.ca_text.proofs.Places.{some_is, At-one, At-parts, At-within}
use Rattle.ca_model.specs.Speech.{In}
use Rattle.ca_model.specs.History.{Entry}
use Rattle.ca_model.specs.History as history
use Rattle.ca_model.specs.World.{Joined, PutPlace, ServerSide, World}
use Rattle.ca_laws_parts.specs.Once.{Once, write_in}
use Rattle.ca_laws_parts.specs.Lives.{AreLater, CameOn, Later, Life, LogsOnce, LostOn}
use Rattle.ca_laws_parts.specs.Moves.{Lives, Moves, WasHandled, Writes}
use Rattle.ca_laws_parts.proofs.Going.{life-later, once-later}

pub At-below : {A : Type 0} (xs : List A) (k : ℕ) → k < length xs → (x : A) × At xs k x
At-below [] k lt = absurd (omega (arith, lt))
At-below (y ∷ xs) zero lt = (y, refl)
At-below (y ∷ xs) (suc k) lt = At-below xs k (omega (arith, lt))

pub same-or : (a b : ℕ) → (a ≡ b) ⊎ (a ≡ b → ⊥)
same-or zero zero = inl refl
same-or zero (suc b) = inr (λ e. omega (arith, e))
same-or (suc a) zero = inr (λ e. omega (arith, e))
same-or (suc a) (suc b) = elim (same-or a b) [ inl e ↦ inl (ap (λ (n : ℕ). suc n) e) | inr other ↦ inr (λ e. other (let d : suc a ≡ suc b = e in omega (arith, d))) ]

-- what is open now was open
pub was-open : (c d : Joined) → Later c d → d.lists.server_open ≡ true → c.lists.server_open ≡ true
was-open c d l is = go c.lists.server_open refl
  where
    go : (b : Bool) → c.lists.server_open ≡ b → c.lists.server_open ≡ true
    go true e = e
    go false e = absurd (let f : true ≡ false = sym is ∙ (l.ended e).0 in cc)

-- what was handled stays handled
pub handled-later : (old new : List Joined) (p : PutPlace) (c : Joined) → At old p.circuit c → AreLater old new → WasHandled old p → WasHandled new p
handled-later old new p c at later was d on is_open =
    let e = later p.circuit c at in
    let same : e.0 ≡ d = At-one new p.circuit e.0 d e.1 on in
    let l : Later c d = subst (λ (x : Joined). Later c x) same e.2 in
    let lt : p.place < length c.lists.handled = was c at (was-open c d l is_open) in
    let h = At-below c.lists.handled p.place lt in
    At-within d.lists.handled p.place h.0 (l.handled p.place h.0 h.1)

pub later-trans : (a b c : List Joined) → AreLater a b → AreLater b c → AreLater a c
later-trans a b c f g n x at =
    let y = f n x at in
    let z = g n y.0 y.1 in (
      z.0,
      z.1,
      record {
        server = z.2.server ∙ y.2.server;
        handle = z.2.handle ∙ y.2.handle;
        life = z.2.life ∙ y.2.life;
        up = λ k s h. z.2.up k s (y.2.up k s h);
        handled = λ k s h. z.2.handled k s (y.2.handled k s h);
        ended = λ e. (let u = y.2.ended e in let v = z.2.ended u.0 in (v.0, v.1 ∙ u.1));
      },
    )

-- ---- an event at a server

module _ (w new : World) (i : ℕ) (y next : ServerSide) (log more : List Entry) (m : Moves w new i y next log more) where
  moves-logs : Writes w → LogsOnce new
  moves-logs h life z at =
      elim (m.logs life z at) [
        | inl same ↦
            let is : log ++ more ≡ z = At-one new.server_logs y.life (log ++ more) z m.logged (subst (λ (l : ℕ). At new.server_logs l z) same at) in
            subst (λ (x : List Entry). Once (CameOn new.circuits life) (LostOn new.circuits) x) is
            (subst (λ (l : ℕ). Once (CameOn new.circuits l) (LostOn new.circuits) (log ++ more)) (sym same) m.life.once)
        | inr old ↦ once-later w.circuits new.circuits life z m.circuits (h.logs life z old)
      ]

  moves-lives : Writes w → (j : ℕ) (z : ServerSide) → At new.servers j z → Lives new j z
  moves-lives h j z at =
      elim (m.server j z at) [
        | inl same ↦
            subst (λ (x : ServerSide). Lives new j x) (sym same.1)
            (subst (λ (k : ℕ). Lives new k next) (sym same.0)
            (record {
              log = log ++ more;
              at = subst (λ (l : ℕ). At new.server_logs l (log ++ more)) (sym m.same_life) m.logged;
              life = subst (λ (l : ℕ). Life new.circuits i l (log ++ more) next.core.records next.records next.added) (sym m.same_life) m.life;
              still_open = m.own_open;
            }))
        | inr other ↦
            let l = h.lives j z other.0 in
            record {
              log = l.log;
              at = m.stay z.life l.log l.at (λ e. other.1 (h.apart j i z y other.0 m.is e));
              life = life-later w.circuits new.circuits j z.life l.log z.core.records z.records z.added m.circuits l.life;
              still_open = m.others_open j z other.0 other.1;
            }
      ]

  moves-apart : Writes w → (j k : ℕ) (z x : ServerSide) → At new.servers j z → At new.servers k x → z.life ≡ x.life → j ≡ k
  moves-apart h j k z x p q e =
      elim (m.server j z p) [
        | inl a ↦ elim (m.server k x q) [
          | inl b ↦ a.0 ∙ sym b.0
          | inr b ↦ a.0 ∙ h.apart i k y x m.is b.0 (sym m.same_life ∙ ap (λ (s : ServerSide). s.life) (sym a.1) ∙ e)
        ]
        | inr a ↦ elim (m.server k x q) [
          | inl b ↦ h.apart j i z y a.0 m.is (e ∙ ap (λ (s : ServerSide). s.life) b.1 ∙ m.same_life) ∙ sym b.0
          | inr b ↦ h.apart j k z x a.0 b.0 e
        ]
      ]

-- the circuit of a write that a log tells of
pub told-on : (circuits : List Joined) (life : ℕ) (y : List Entry) (e : Entry) (p : PutPlace) → Once (CameOn circuits life) (LostOn circuits) y → In y e → write_in e ≡ Some p → (c : Joined) × At circuits p.circuit c
told-on circuits life y e p once h about = go e h about
  where
    at-place : (q : PutPlace) → let a : Option PutPlace = Some q in let b : Option PutPlace = Some p in a ≡ b → ((c : Joined) × At circuits q.circuit c) → (c : Joined) × At circuits p.circuit c
    at-place q is r = subst (λ (z : PutPlace). (c : Joined) × At circuits z.circuit c) (some_is q p is) r

    waits : (i n k r : ℕ) (v : _) → At y i (history.Waits n k r v) → (c : Joined) × At circuits n c
    waits i n k r v at = (let c = once.came i n k r v at in (c.c, c.on))

    applied : (i n k r : ℕ) (v : _) (b : Bool) → At y i (history.Applied n k r v b) → (c : Joined) × At circuits n c
    applied i n k r v b at = elim (once.own i n k r v b at) [ inl c ↦ (c.c, c.on) | inr was ↦ waits was.0 n k r was.1 was.3 ]

    go : (f : Entry) → In y f → write_in f ≡ Some p → (c : Joined) × At circuits p.circuit c
    go (history.Added r s) at is = absurd cc
    go (history.Removed r) at is = absurd cc
    go (history.Posted r mask v) at is = absurd cc
    go (history.Waits n k r v) at is = at-place (record { circuit = n; place = k }) is (waits at.0 n k r v at.1)
    go (history.Applied n k r v b) at is = at-place (record { circuit = n; place = k }) is (applied at.0 n k r v b at.1)
    go (history.Finished n k) at is = at-place (record { circuit = n; place = k }) is (let b = (once.finished n k at.0 at.1).0 in applied b.0 n k b.1 b.2 true b.3)
    go (history.Withdrawn n k) at is = at-place (record { circuit = n; place = k }) is (let l = once.withdrawn at.0 n k at.1 in waits l.2.0 n k l.0 l.2.1 l.2.3)

-- What an event at a server may do keeps what holds of writes.
pub moves-keep : (w new : World) (i : ℕ) (y next : ServerSide) (log more : List Entry) → At w.server_logs y.life log → Moves w new i y next log more → Writes w → Writes new
moves-keep w new i y next log more here m h = record {
  lives = moves-lives w new i y next log more m h;
  apart = moves-apart w new i y next log more m h;
  logs = moves-logs w new i y next log more m h;
  handled = λ life z e p at told about. elim (m.logs life z at) [
    | inl same ↦
        let is : log ++ more ≡ z = At-one new.server_logs y.life (log ++ more) z m.logged (subst (λ (l : ℕ). At new.server_logs l z) same at) in
        let in_it : In (log ++ more) e = subst (λ (x : List Entry). In x e) (sym is) told in
        elim (At-parts log more in_it.0 e in_it.1) [
          | inl old ↦
              let c = told-on w.circuits y.life log e p (h.logs y.life log here) (in_it.0, old) about in
              handled-later w.circuits new.circuits p c.0 c.1 m.circuits (h.handled y.life log e p here (in_it.0, old) about)
          | inr now ↦ m.handled e p (now.0, now.2) about
        ]
    | inr old ↦
        let c = told-on w.circuits life z e p (h.logs life z old) told about in
        handled-later w.circuits new.circuits p c.0 c.1 m.circuits (h.handled life z e p old told about)
  ];
}
