-- The ways in which a client speaks on one circuit: it serves the circuit or creates channels, uses
-- one that is live, or clears one.
use Rattle.std.proofs.Common.{◌≡◌, ℕ, zero, suc, ◌+◌, ◌<◌, ◌⊎◌, inl, inr, List, [], ◌∷◌, ◌++◌, length, refl, sym, ap, ◌∙◌, subst, arith}
use Rattle.ca_text.specs.Place.{At}
use Rattle.ca_text.proofs.Places.{At-after, At-append, At-back, some_is}
use Rattle.ca_arena.specs.declared.handle.Handle.{Handle}
use Rattle.ca_model.specs.Client.{Client}
use Rattle.ca_model.specs.History.{Ask, Circuit, Clear, Create, On, OfCircuit, Sent, Told}
use Rattle.ca_model.specs.Speech.{Clears, sid_in}
use Rattle.ca_model.proofs.Handles.{handle-or}
use Rattle.ca_model.specs.ClientEvents.{channel_number}
use Rattle.ca_model.specs.World.{Names}
use Rattle.ca_laws_parts.specs.Sids.{IsClearedWithin}
use Rattle.ca_laws_runs.specs.Under.{IsCreatedBefore, IsUse}
use Rattle.ca_laws_runs.specs.Sides.{IsLiveAs, Right, Sides}
use Rattle.ca_laws_runs.proofs.Grows.{Facts, created-on, right-more, sides-more}
use Rattle.ca_laws_runs.proofs.Live.{SameLive, one-sid}

-- It serves the circuit, or creates channels that are not live there.
pub record IsCalm (on : Handle) (n : Names) (x : Client) (ss : List Sent) (z : Client) : Type 0 where
  pub same : SameLive on x.channels z.channels
  pub opens : (i : ℕ) (s : Sent) → At ss i s → (s.intent ≡ OfCircuit) ⊎ ((a : ℕ) × (s.intent ≡ On a Create) × ((h : Handle) (sid : ℕ) → channel_number n h ≡ a → IsLiveAs x.channels on h sid → ⊥))

-- It uses one that is live there, under its SID.
pub record IsUsing (on : Handle) (n : Names) (x : Client) (ss : List Sent) (z : Client) : Type 0 where
  pub same : SameLive on x.channels z.channels
  pub h : Handle
  pub sid : ℕ
  pub live : IsLiveAs x.channels on h sid
  pub uses : (i : ℕ) (s : Sent) → At ss i s → (ask : Ask) × (s.intent ≡ On (channel_number n h) ask) × IsUse ask × (sid_in s.message ≡ sid)

-- It clears one that is live there, which is not live any more.
pub record IsClearing (on : Handle) (n : Names) (x : Client) (ss : List Sent) (z : Client) : Type 0 where
  pub h : Handle
  pub sid : ℕ
  pub live : IsLiveAs x.channels on h sid
  pub gone : (other : ℕ) → IsLiveAs z.channels on h other → ⊥
  pub others : (g : Handle) (other : ℕ) → (g ≡ h → ⊥) → (IsLiveAs x.channels on g other → IsLiveAs z.channels on g other) × (IsLiveAs z.channels on g other → IsLiveAs x.channels on g other)
  pub alone : (g : Handle) (other : ℕ) → IsLiveAs x.channels on g other → channel_number n g ≡ channel_number n h → g ≡ h
  pub s : Sent
  pub only : ss ≡ s ∷ []
  pub clears : Clears s.message sid
  pub is : s.intent ≡ On (channel_number n h) Clear

abbrev pub Way : (on : Handle) (n : Names) (x : Client) (ss : List Sent) (z : Client) → Type 0
Way on n x ss z = IsCalm on n x ss z ⊎ (IsUsing on n x ss z ⊎ IsClearing on n x ss z)

-- Each message serves the circuit.
abbrev pub AllServe : List Sent → Type 0
AllServe ss = (i : ℕ) (s : Sent) → At ss i s → s.intent ≡ OfCircuit

not-on : (a : ℕ) (ask : Ask) → OfCircuit ≡ On a ask → ⊥
not-on a ask e = cc

ask-is : (a b : ℕ) (p q : Ask) → On a p ≡ On b q → p ≡ q
ask-is a b p q e = cc

number-is : (a b : ℕ) (p q : Ask) → On a p ≡ On b q → a ≡ b
number-is a b p q e = cc

no-use : (ask : Ask) → ask ≡ Create → IsUse ask → ⊥
no-use ask is uses = subst (λ (z : Ask). IsUse z) is uses

module _ (c d : Circuit) (ss : List Sent) (up : d.up ≡ c.up ++ ss) (down : d.down ≡ c.down) (heard : length d.heard ≡ length c.heard) (handled : length d.handled ≡ length c.handled) where
  pub serving-right : AllServe ss → Right c → Right d
  serving-right serve h = right-more c d ss up down heard handled h (λ i a s ask at is other. absurd (not-on a ask (sym (serve i s at) ∙ is))) (λ i a p m sid r q t at is. absurd (not-on a Create (sym (serve i q at) ∙ is)))
      (λ i a p r q at is. absurd (not-on a Create (sym (serve i q at) ∙ is)))

  module _ (n now : Names) (x z : Client) (on : Handle) (facts : (i : ℕ) (s : Sent) (a : ℕ) → At ss i s → s.intent ≡ On a Create → Facts c d)
      (numbers : (h : Handle) (sid : ℕ) → IsLiveAs x.channels on h sid → channel_number now h ≡ channel_number n h) (sides : Sides n x on c) (right : Right c) where
    no-creation : ((i : ℕ) (s : Sent) (a : ℕ) → At ss i s → s.intent ≡ On a Create → ⊥) → (i : ℕ) (t : Told) (l a : ℕ) (s : Sent) → At c.down i t → t.place ≡ length c.up + l → At ss l s → s.intent ≡ On a Create → ⊥
    no-creation none i t l a s told place at is = none l s a at is

    calm : IsCalm on n x ss z → Sides now z on d × Right d
    calm w = (
      sides-more c d ss up down heard handled n now x z on sides numbers (λ h sid l. (w.same h sid).1 l) (λ h sid l. inl ((w.same h sid).0 l))
          (λ h sid l i s ask at is. elim (w.opens i s at) [
            | inl serves ↦ absurd (not-on (channel_number n h) ask (sym serves ∙ is))
            | inr opens ↦ absurd (opens.2 h sid (number-is (channel_number n h) opens.0 ask Create (sym is ∙ opens.1)) ((w.same h sid).1 l))
          ])
          (λ i t l a s told place at is. (let lt : t.place < length c.up = (facts l s a at is).about i t told in omega (arith, lt, place))),
      right-more c d ss up down heard handled right
          (λ i a s ask at is other. elim (w.opens i s at) [
            | inl serves ↦ absurd (not-on a ask (sym serves ∙ is))
            | inr opens ↦ absurd (other (ask-is a opens.0 ask Create (sym is ∙ opens.1)))
          ])
          (λ i a p m sid r q t at is lt at_r is_r told about reply creates.
          let f = facts i q a at is in
          let at_q : At d.up (length c.up + i) q = subst (λ (l : List Sent). At l (length c.up + i) q) (sym up) (At-after c.up ss i q at) in
          let read : m < length d.heard = f.read p (length c.up + i) a m sid r q t lt at_r at_q is_r is told about reply creates in
          let old : At c.down m t = subst (λ (l : List Told). At l m t) down told in
          let before : p < length c.up = subst (λ (v : ℕ). v < length c.up) about (f.about m t old) in
          let was : At c.up t.place r = subst (λ (v : ℕ). At c.up v r) (sym about) (below p r at_r before) in
          elim (sides.answered m sid a t r (subst (λ (v : ℕ). m < v) heard read) old reply creates was is_r) [
            | inl cleared ↦
                let w2 : IsClearedWithin c.up sid p (length c.up) = subst (λ (v : ℕ). IsClearedWithin c.up sid v (length c.up)) about cleared in
                (w2.0, w2.1, w2.2, (let e : w2.0 < length c.up = w2.3 in omega (arith, e)), subst (λ (l : List Sent). At l w2.0 w2.1) (sym up) (At-append-of w2.0 w2.1 w2.4), w2.5)
            | inr live ↦ elim (w.opens i q at) [
              | inl serves ↦ absurd (not-on a Create (sym serves ∙ is))
              | inr opens ↦ absurd (opens.2 live.0 sid (live.1 ∙ number-is a opens.0 Create Create (sym is ∙ opens.1)) live.2)
            ]
          ])
          (λ i a p r q at is lt at_r is_r.
          let at_q : At d.up (length c.up + i) q = subst (λ (l : List Sent). At l (length c.up + i) q) (sym up) (At-after c.up ss i q at) in
          (facts i q a at is).turn p (length c.up + i) a r q lt at_r at_q is_r is),
    )
      where
        At-append-of : (p : ℕ) (s : Sent) → At c.up p s → At (c.up ++ ss) p s
        At-append-of p s at = At-append c.up ss p s at

        below : (p : ℕ) (s : Sent) → At d.up p s → p < length c.up → At c.up p s
        below p s at lt = At-back c.up ss p s (subst (λ (l : List Sent). At l p s) up at) lt

    using : IsUsing on n x ss z → Sides now z on d × Right d
    using w = (
      sides-more c d ss up down heard handled n now x z on sides numbers (λ h sid l. (w.same h sid).1 l) (λ h sid l. inl ((w.same h sid).0 l))
          (λ h sid l i s ask at is.
          let u = w.uses i s at in
          subst (λ (v : Ask). IsUse v) (ask-is (channel_number n w.h) (channel_number n h) u.0 ask (sym u.1 ∙ is)) u.2)
          (no-creation none),
      right-more c d ss up down heard handled right
          (λ i a s ask at is other.
          let u = w.uses i s at in
          let b = sides.lives w.h w.sid w.live in
          let on_a : channel_number n w.h ≡ a = number-is (channel_number n w.h) a u.0 ask (sym u.1 ∙ is) in
          let more : IsCreatedBefore d (channel_number n w.h) b.0 b.1 w.sid (length c.up + i) =
          created-on c d ss up down heard handled (channel_number n w.h) b.0 b.1 w.sid i b.3
          (λ l q asks lt at_q is_q. (let v = w.uses l q at_q in subst (λ (y : Ask). IsUse y) (ask-is (channel_number n w.h) (channel_number n w.h) v.0 asks (sym v.1 ∙ is_q)) v.2)) in
          (b.0, b.1, subst (λ (v : ℕ). b.0 < v) (sym heard) b.2, subst (λ (v : ℕ × ℕ). IsCreatedBefore d v.0 b.0 b.1 v.1 (length c.up + i)) (λ k. (on_a k, sym u.3 k)) more))
          (λ i a p m sid r q t at is. absurd (none i q a at is))
          (λ i a p r q at is. absurd (none i q a at is)),
    )
      where
        none : (i : ℕ) (s : Sent) (a : ℕ) → At ss i s → s.intent ≡ On a Create → ⊥
        none i s a at is = (let u = w.uses i s at in no-use u.0 (ask-is (channel_number n w.h) a u.0 Create (sym u.1 ∙ is)) u.2)

    clearing : IsClearing on n x ss z → Sides now z on d × Right d
    clearing w = (
      sides-more c d ss up down heard handled n now x z on sides numbers
          (λ h sid l. elim (handle-or h w.h) [
            | inl same ↦ absurd (w.gone sid (subst (λ (v : Handle). IsLiveAs z.channels on v sid) same l))
            | inr other ↦ (w.others h sid other).1 l
          ])
          (λ h sid l. elim (handle-or h w.h) [
            | inr other ↦ inl ((w.others h sid other).0 l)
            | inl same ↦
                let e = one-sid x.channels on on w.h w.sid sid w.live (subst (λ (v : Handle). IsLiveAs x.channels on v sid) same l) in
                inr (0, w.s, first, subst (λ (v : ℕ). Clears (w.s).message v) e.1 w.clears)
          ])
          (λ h sid l i s ask at is. elim (handle-or h w.h) [
            | inl same ↦ absurd (w.gone sid (subst (λ (v : Handle). IsLiveAs z.channels on v sid) same l))
            | inr other ↦
                let m = the-one i s at in
                absurd (other (w.alone h sid ((w.others h sid other).1 l) (number-is (channel_number n h) (channel_number n w.h) ask Clear (sym is ∙ ap (λ (v : Sent). v.intent) m.1 ∙ w.is))))
          ])
          (no-creation none),
      right-more c d ss up down heard handled right
          (λ i a s ask at is other.
          let m = the-one i s at in
          let b = sides.lives w.h w.sid w.live in
          let on_a : channel_number n w.h ≡ a = number-is (channel_number n w.h) a Clear ask (sym w.is ∙ ap (λ (v : Sent). v.intent) (sym m.1) ∙ is) in
          let more : IsCreatedBefore d (channel_number n w.h) b.0 b.1 w.sid (length c.up + i) =
          created-on c d ss up down heard handled (channel_number n w.h) b.0 b.1 w.sid i b.3 (λ l q asks lt at_q is_q. absurd (let e : i ≡ 0 = m.0 in omega (arith, lt, e))) in
          let sid_is : w.sid ≡ sid_in s.message = sym (w.clears.1) ∙ ap (λ (v : Sent). sid_in v.message) (sym m.1) in
          (b.0, b.1, subst (λ (v : ℕ). b.0 < v) (sym heard) b.2, subst (λ (v : ℕ × ℕ). IsCreatedBefore d v.0 b.0 b.1 v.1 (length c.up + i)) (λ k. (on_a k, sid_is k)) more))
          (λ i a p m sid r q t at is. absurd (none i q a at is))
          (λ i a p r q at is. absurd (none i q a at is)),
    )
      where
        first : At ss 0 w.s
        first = subst (λ (l : List Sent). At l 0 w.s) (sym w.only) refl

        the-one : (i : ℕ) (s : Sent) → At ss i s → (i ≡ 0) × (s ≡ w.s)
        the-one i s at = go i (subst (λ (l : List Sent). At l i s) w.only at)
          where
            go : (i : ℕ) → At (w.s ∷ []) i s → (i ≡ 0) × (s ≡ w.s)
            go zero there = (refl, sym (some_is w.s s there))
            go (suc i) there = absurd cc

        none : (i : ℕ) (s : Sent) (a : ℕ) → At ss i s → s.intent ≡ On a Create → ⊥
        none i s a at is = (let m = the-one i s at in clear-not (ask-is (channel_number n w.h) a Clear Create (sym w.is ∙ ap (λ (v : Sent). v.intent) (sym m.1) ∙ is)))
          where
            clear-not : Clear ≡ Create → ⊥
            clear-not e = cc

    pub by-way : Way on n x ss z → Sides now z on d × Right d
    by-way (inl w) = calm w
    by-way (inr (inl w)) = using w
    by-way (inr (inr w)) = clearing w
