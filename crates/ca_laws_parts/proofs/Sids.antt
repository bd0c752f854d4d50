-- How the meaning of SIDs is kept as the lists grow, and that a message is handled on the
-- channel that was meant.
use Rattle.std.proofs.Common.{◌≡◌, ℕ, zero, suc, ◌+◌, ◌<◌, ◌≤◌, inl, inr, List, [], ◌∷◌, ◌++◌, length, take, sym, ap, ◌∙◌, subst, arith}
use Rattle.ca_text.specs.Place.{At}
use Rattle.ca_text.proofs.Places.{At-append, At-one, At-snoc, At-within}
use Rattle.ca_model.specs.Speech.{Cid, Clears, Creates, Gives, name_in, sid_in}
use Rattle.ca_model.specs.History.{Ask, Create, Entry, On, Sent, Told, Step, Circuit}
use Rattle.ca_model.specs.Channels.{Has, IsOpen, before}
use Rattle.ca_laws_parts.specs.Flows.{with_handled, with_heard, with_sent, with_told}
use Rattle.ca_laws_parts.specs.Sids.{IsClearedWithin, IsLiveBefore, MayCreate, Sids}
use Rattle.ca_laws_parts.proofs.CircuitLists.{At-old}
use Rattle.ca_model.proofs.Tables.{length-more}
use Rattle.ca_model.proofs.Thinner.{three-ways}

-- ---- clears between two places

within-back : (up : List Sent) (s : Sent) (sid a b : ℕ) → b ≤ length up → IsClearedWithin (up ++ s ∷ []) sid a b → IsClearedWithin up sid a b
within-back up s sid a b le h = (h.0, h.1, h.2, h.3, At-old up h.1 s h.0 h.4 (omega (arith, h.3, le)), h.5)

within-sent : (up : List Sent) (s : Sent) (sid a b : ℕ) → IsClearedWithin up sid a b → IsClearedWithin (up ++ s ∷ []) sid a b
within-sent up s sid a b h = (h.0, h.1, h.2, h.3, At-append up (s ∷ []) h.0 h.1 h.4, h.5)

pub within-wider : (up : List Sent) (sid a b d : ℕ) → b ≤ d → IsClearedWithin up sid a b → IsClearedWithin up sid a d
within-wider up sid a b d le h = (h.0, h.1, h.2, (let lt : h.0 < b = h.3 in omega (arith, lt, le)), h.4, h.5)

-- ---- a live channel as the lists grow

live-sent : (c : Circuit) (s : Sent) (channel j k sid b : ℕ) → b ≤ length c.up → IsLiveBefore c channel j k sid b → IsLiveBefore (with_sent s c) channel j k sid b
live-sent c s channel j k sid b le l = record {
  t = l.t;
  s = l.s;
  g = l.g;
  told = l.told;
  asked = (At-append c.up (s ∷ []) k l.s l.asked.0, l.asked.1);
  read = l.read;
  early = l.early;
  uncleared = λ h. l.uncleared (within-back c.up s sid k b le h);
}

live-told : (c : Circuit) (t : Told) (channel j k sid b : ℕ) → IsLiveBefore c channel j k sid b → IsLiveBefore (with_told t c) channel j k sid b
live-told c t channel j k sid b l = record {
  t = l.t;
  s = l.s;
  g = l.g;
  told = (At-append c.down (t ∷ []) j l.t l.told.0, l.told.1, l.told.2, l.told.3);
  asked = l.asked;
  read = l.read;
  early = l.early;
  uncleared = l.uncleared;
}

live-heard : (c : Circuit) (g : Step) (channel j k sid b : ℕ) → IsLiveBefore c channel j k sid b → IsLiveBefore (with_heard g c) channel j k sid b
live-heard c g channel j k sid b l = record {
  t = l.t;
  s = l.s;
  g = l.g;
  told = l.told;
  asked = l.asked;
  read = (At-append c.heard (g ∷ []) j l.g l.read.0, l.read.1);
  early = l.early;
  uncleared = l.uncleared;
}

live-handled : (c : Circuit) (h : Step) (channel j k sid b : ℕ) → IsLiveBefore c channel j k sid b → IsLiveBefore (with_handled h c) channel j k sid b
live-handled c h channel j k sid b l =
    record { t = l.t; s = l.s; g = l.g; told = l.told; asked = l.asked; read = l.read; early = l.early; uncleared = l.uncleared }

-- a live channel stays so when a message goes out that does not clear its SID
pub live-past : (c : Circuit) (s : Sent) (channel j k sid : ℕ) → (Clears s.message sid → ⊥) → IsLiveBefore c channel j k sid (length c.up) → IsLiveBefore (with_sent s c) channel j k sid (length c.up + 1)
live-past c s channel j k sid other l = record {
  t = l.t;
  s = l.s;
  g = l.g;
  told = l.told;
  asked = (At-append c.up (s ∷ []) k l.s l.asked.0, l.asked.1);
  read = (l.read.0, (let le : l.g.sent ≤ length c.up = l.read.1 in omega (arith, le)));
  early = (let lt : k < length c.up = l.early in omega (arith, lt));
  uncleared = λ h. elim (At-snoc c.up s h.0 h.1 h.4) [
    | inl old ↦ l.uncleared (h.0, h.1, h.2, At-within c.up h.0 h.1 old, old, h.5)
    | inr new ↦ other (subst (λ (x : Sent). Clears x.message sid) new.1 h.5)
  ];
}

-- ---- the lists grow

-- a message is sent: one on a channel under the SID under which that is live now
pub sids-sent : (c : Circuit) (s : Sent) → ((channel : ℕ) (ask : Ask) → s.intent ≡ On channel ask → (ask ≡ Create → ⊥) → (j k : ℕ) × IsLiveBefore c channel j k (sid_in s.message) (length c.up))
    → Sids c → Sids (with_sent s c)
sids-sent c s may f = record {
  within = f.within;
  sent = f.sent;
  caused = f.caused;
  before = f.before;
  after = f.after;
  live = λ p channel r ask at is other. elim (At-snoc c.up s p r at) [
    | inl old ↦
        let l = f.live p channel r ask old is other in
        (l.0, l.1, live-sent c s channel l.0 l.1 (sid_in r.message) p (let lt : p < length c.up = At-within c.up p r old in omega (arith, lt)) l.2)
    | inr new ↦
        let l = may channel ask (ap (λ (x : Sent). x.intent) (sym new.1) ∙ is) other in
        let there : IsLiveBefore (with_sent s c) channel l.0 l.1 (sid_in s.message) (length c.up) =
        live-sent c s channel l.0 l.1 (sid_in s.message) (length c.up) (omega arith) l.2 in
        (l.0, l.1, subst (λ (x : ℕ × Sent). IsLiveBefore (with_sent s c) channel l.0 l.1 (sid_in x.1.message) x.0) (λ i. (sym new.0 i, sym new.1 i)) there)
  ];
  apart = λ i j sid t u lt ati atj a b. (let r = f.apart i j sid t u lt ati atj a b in (r.0, within-sent c.up s sid t.place u.place r.1));
}

-- a message is handled: the server has sent nothing about it
pub sids-handled : (c : Circuit) (h : Step) → h.sent ≡ length c.down → Sids c → Sids (with_handled h c)
sids-handled c h now f =
    let len : length (c.handled ++ h ∷ []) ≡ length c.handled + 1 = length-more c.handled h in
    record {
      within = f.within;
      sent = λ p g at. elim (At-snoc c.handled h p g at) [
        | inl old ↦ f.sent p g old
        | inr new ↦ (let e : g.sent ≡ length c.down = ap (λ (x : Step). x.sent) new.1 ∙ now in omega (arith, e))
      ];
      caused = λ i t at. (let lt : t.place < length c.handled = f.caused i t at in omega (arith, lt, len));
      before = λ i p t g at stands lt. elim (At-snoc c.handled h p g stands) [
        | inl old ↦ f.before i p t g at old lt
        | inr new ↦ (let less : t.place < length c.handled = f.caused i t at in let e : p ≡ length c.handled = new.0 in omega (arith, less, e))
      ];
      after = λ j p g k at stands le. elim (At-snoc c.handled h p k stands) [
        | inl old ↦ f.after j p g k at old le
        | inr new ↦
            let lt : j < length c.heard = At-within c.heard j g at in
            let within : length c.heard ≤ length c.down = f.within in
            let e : k.sent ≡ length c.down = ap (λ (x : Step). x.sent) new.1 ∙ now in
            omega (arith, lt, within, e)
      ];
      live = λ p channel r ask at is other. (let l = f.live p channel r ask at is other in (l.0, l.1, live-handled c h channel l.0 l.1 (sid_in r.message) p l.2));
      apart = f.apart;
    }

-- a message is told about one that was handled, and creates a channel only under a SID that is free
pub sids-told : (c : Circuit) (t : Told) → t.place < length c.handled → ((sid : ℕ) → Creates t.message sid → MayCreate c sid t.place) → Sids c → Sids (with_told t c)
sids-told c t there may f =
    let len : length (c.down ++ t ∷ []) ≡ length c.down + 1 = length-more c.down t in
    record {
      within = (let le : length c.heard ≤ length c.down = f.within in omega (arith, le, len));
      sent = λ p h at. (let le : h.sent ≤ length c.down = f.sent p h at in omega (arith, le, len));
      caused = λ i u at. elim (At-snoc c.down t i u at) [
        | inl old ↦ f.caused i u old
        | inr new ↦ subst (λ (x : Told). x.place < length c.handled) (sym new.1) there
      ];
      before = λ i p u h at stands lt. elim (At-snoc c.down t i u at) [
        | inl old ↦ f.before i p u h old stands lt
        | inr new ↦ (let le : h.sent ≤ length c.down = f.sent p h stands in let e : i ≡ length c.down = new.0 in absurd (omega (arith, le, e, lt)))
      ];
      after = f.after;
      live = λ p channel r ask at is other. (let l = f.live p channel r ask at is other in (l.0, l.1, live-told c t channel l.0 l.1 (sid_in r.message) p l.2));
      apart = λ i j sid u v lt ati atj a b. elim (At-snoc c.down t j v atj) [
        | inl oldj ↦ elim (At-snoc c.down t i u ati) [
          | inl oldi ↦ f.apart i j sid u v lt oldi oldj a b
          | inr newi ↦ (let in_it : j < length c.down = At-within c.down j v oldj in let e : i ≡ length c.down = newi.0 in absurd (omega (arith, in_it, e, lt)))
        ]
        | inr newj ↦ elim (At-snoc c.down t i u ati) [
          | inl oldi ↦
              subst (λ (x : Told). (u.place < x.place) × IsClearedWithin c.up sid u.place x.place) (sym newj.1)
              (may sid (subst (λ (x : Told). Creates x.message sid) newj.1 b) i u oldi a)
          | inr newi ↦ (let e : i ≡ length c.down = newi.0 in let f : j ≡ length c.down = newj.0 in absurd (omega (arith, e, f, lt)))
        ]
      ];
    }

-- a message is read
pub sids-heard : (c : Circuit) (g : Step) → g.sent ≡ length c.up → length c.handled ≤ length c.up → length c.heard < length c.down → Sids c → Sids (with_heard g c)
sids-heard c g now few lt f =
    let len : length (c.heard ++ g ∷ []) ≡ length c.heard + 1 = length-more c.heard g in
    record {
      within = omega (arith, len, lt);
      sent = f.sent;
      caused = f.caused;
      before = f.before;
      after = λ j p k h at stands le. elim (At-snoc c.heard g j k at) [
        | inl old ↦ f.after j p k h old stands le
        | inr new ↦
            let e : k.sent ≡ length c.up = ap (λ (x : Step). x.sent) new.1 ∙ now in
            let in_it : p < length c.handled = At-within c.handled p h stands in
            absurd (omega (arith, e, in_it, few, le))
      ];
      live = λ p channel r ask at is other. (let l = f.live p channel r ask at is other in (l.0, l.1, live-heard c g channel l.0 l.1 (sid_in r.message) p l.2));
      apart = f.apart;
    }

-- ---- what a SID means

-- under one SID one channel is live
pub one-live : (c : Circuit) (a d i j k l sid b : ℕ) → Sids c → IsLiveBefore c a i k sid b → IsLiveBefore c d j l sid b → (i ≡ j) × (k ≡ l)
one-live c a d i j k l sid b f x y =
    elim (three-ways i j) [
      | inl lt ↦
          let r = f.apart i j sid x.t y.t lt x.told.0 y.told.0 x.told.3 y.told.3 in
          let cleared : IsClearedWithin c.up sid k l = subst (λ (p : ℕ × ℕ). IsClearedWithin c.up sid p.0 p.1) (λ n. (x.told.1 n, y.told.1 n)) r.1 in
          absurd (x.uncleared (within-wider c.up sid k l b (let e : l < b = y.early in omega (arith, e)) cleared))
      | inr (inl is) ↦
          let same : x.t ≡ y.t = At-one c.down j x.t y.t (subst (λ (n : ℕ). At c.down n x.t) is x.told.0) y.told.0 in
          (is, sym x.told.1 ∙ ap (λ (t : Told). t.place) same ∙ y.told.1)
      | inr (inr lt) ↦
          let r = f.apart j i sid y.t x.t lt y.told.0 x.told.0 y.told.3 x.told.3 in
          let cleared : IsClearedWithin c.up sid l k = subst (λ (p : ℕ × ℕ). IsClearedWithin c.up sid p.0 p.1) (λ n. (y.told.1 n, x.told.1 n)) r.1 in
          absurd (y.uncleared (within-wider c.up sid l k b (let e : k < b = x.early in omega (arith, e)) cleared))
    ]

-- what is in the beginning of a list
At-taken : {A : Type 0} (n : ℕ) (xs : List A) (k : ℕ) (x : A) → At xs k x → k < n → At (take n xs) k x
At-taken zero xs k x at lt = absurd (omega (arith, lt))
At-taken (suc n) [] k x at lt = absurd cc
At-taken (suc n) (y ∷ xs) zero x at lt = at
At-taken (suc n) (y ∷ xs) (suc k) x at lt = At-taken n xs k x at (omega (arith, lt))

from-taken : {A : Type 0} (n : ℕ) (xs : List A) (k : ℕ) (x : A) → At (take n xs) k x → At xs k x × (k < n)
from-taken zero xs k x at = absurd cc
from-taken (suc n) [] k x at = absurd cc
from-taken (suc n) (y ∷ xs) zero x at = (at, omega arith)
from-taken (suc n) (y ∷ xs) (suc k) x at = (let r = from-taken n xs k x at in (r.0, (let lt : k < n = r.1 in omega (arith, lt))))

-- A message on a channel is handled on the channel that was meant: that is open then under its SID.
pub acts-on-own : (c : Circuit) (y : List Entry) (p channel : ℕ) (s : Sent) (ask : Ask) (h : Step) → Sids c → At c.up p s → s.intent ≡ On channel ask → (ask ≡ Create → ⊥) → At c.handled p h
    → (j k : ℕ) × (t : Told) × (q : Sent) × At c.down j t × (t.place ≡ k) × At c.up k q × (q.intent ≡ On channel Create)
    × ((r : ℕ) (g : Step) → At c.handled k g → Has (take g.logged (take h.logged y)) r (name_in q.message) → Gives q.message (Cid t.message.p1) → IsOpen (before c p h) (take h.logged y) j k (sid_in s.message) r)
acts-on-own c y p channel s ask h f at is other handled =
    let live = f.live p channel s ask at is other in
    let l = live.2 in
    let sent : live.0 < h.sent = f.after live.0 p l.g h l.read.0 handled l.read.1 in (
      live.0,
      live.1,
      l.t,
      l.s,
      l.told.0,
      l.told.1,
      l.asked.0,
      l.asked.1,
      λ r g stands has gives. (
        (l.t, l.s, g, At-taken h.sent c.down live.0 l.t l.told.0 sent, l.told.1, l.told.2, l.told.3, At-taken p c.up live.1 l.s l.asked.0 l.early, At-taken p c.handled live.1 g stands l.early, has, gives),
        (λ i u lt there creates.
            let was = from-taken h.sent c.down i u there in
            let r = f.apart live.0 i (sid_in s.message) l.t u lt l.told.0 was.0 l.told.3 creates in
            let cleared : IsClearedWithin c.up (sid_in s.message) live.1 u.place = subst (λ (n : ℕ). IsClearedWithin c.up (sid_in s.message) n u.place) l.told.1 r.1 in
            let early : u.place < p = f.before i p u h was.0 handled was.1 in
            l.uncleared (within-wider c.up (sid_in s.message) live.1 u.place p (omega (arith, early)) cleared)),
        (λ m r lt below there clears.
            let was = from-taken p c.up m r there in
            l.uncleared (m, r, lt, was.1, was.0, clears)),
      ),
    )

-- a circuit on which nothing was sent
pub sids-new : (c : Circuit) → c.up ≡ [] → c.down ≡ [] → c.heard ≡ [] → c.handled ≡ [] → Sids c
sids-new c up down heard handled = record {
  within = (let e : length c.heard ≡ 0 = ap (λ (l : List Step). length l) heard in omega (arith, e));
  sent = λ p h at. absurd (none p h (subst (λ (l : List Step). At l p h) handled at));
  caused = λ i t at. absurd (none i t (subst (λ (l : List Told). At l i t) down at));
  before = λ i p t h at stands lt. absurd (none i t (subst (λ (l : List Told). At l i t) down at));
  after = λ j p g h at stands le. absurd (none j g (subst (λ (l : List Step). At l j g) heard at));
  live = λ p channel s ask at is other. absurd (none p s (subst (λ (l : List Sent). At l p s) up at));
  apart = λ i j sid t u lt ati atj a b. absurd (none i t (subst (λ (l : List Told). At l i t) down ati));
}
  where
    none : {A : Type 0} (k : ℕ) (a : A) → At [] k a → ⊥
    none k a e = cc
