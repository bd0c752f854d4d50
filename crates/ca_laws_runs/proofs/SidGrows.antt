-- What clients say stays right as the lists of a circuit grow.
use Rattle.std.proofs.Common.{◌≡◌, ℕ, ◌+◌, ◌<◌, ◌≤◌, inl, inr, [], ◌∷◌, ◌++◌, length, sym, ap, ◌∙◌, subst, arith}
use Rattle.ca_text.specs.Place.{At}
use Rattle.ca_text.proofs.Places.{At-append, At-snoc, At-within}
use Rattle.ca_model.specs.History.{Ask, Circuit, Create, On, Reply, Sent, Told}
use Rattle.ca_model.specs.Speech.{Creates, sid_in}
use Rattle.ca_laws_parts.specs.Flows.{with_sent, with_told}
use Rattle.ca_laws_parts.specs.Sids.{IsClearedWithin}
use Rattle.ca_laws_runs.specs.Under.{AreClearedBetween, AreUnder, IsCreatedBefore, IsUse}

-- ---- a message is sent

before-sent : (c : Circuit) (s : Sent) (channel j k sid b : ℕ) → b ≤ length c.up → IsCreatedBefore c channel j k sid b → IsCreatedBefore (with_sent s c) channel j k sid b
before-sent c s channel j k sid b le h = record {
  t = h.t;
  r = h.r;
  told = h.told;
  asked = (At-append c.up (s ∷ []) k h.r h.asked.0, h.asked.1);
  early = h.early;
  since = λ l q ask after lt at is. elim (At-snoc c.up s l q at) [
    | inl old ↦ h.since l q ask after lt old is
    | inr new ↦ absurd (let e : l ≡ length c.up = new.0 in omega (arith, e, lt, le))
  ];
}

-- a channel that was created last under this SID still is, if the message uses it or is on another
pub before-past : (c : Circuit) (s : Sent) (channel j k sid : ℕ) → ((ask : Ask) → s.intent ≡ On channel ask → IsUse ask) → IsCreatedBefore c channel j k sid (length c.up)
    → IsCreatedBefore (with_sent s c) channel j k sid (length c.up + 1)
before-past c s channel j k sid uses h = record {
  t = h.t;
  r = h.r;
  told = h.told;
  asked = (At-append c.up (s ∷ []) k h.r h.asked.0, h.asked.1);
  early = (let lt : k < length c.up = h.early in omega (arith, lt));
  since = λ l q ask after lt at is. elim (At-snoc c.up s l q at) [
    | inl old ↦ h.since l q ask after (At-within c.up l q old) old is
    | inr new ↦ uses ask (ap (λ (z : Sent). z.intent) (sym new.1) ∙ is)
  ];
}

pub under-sent : (c : Circuit) (s : Sent) → ((channel : ℕ) (ask : Ask) → s.intent ≡ On channel ask → (ask ≡ Create → ⊥) → (j k : ℕ) × IsCreatedBefore c channel j k (sid_in s.message) (length c.up)) → AreUnder c → AreUnder (with_sent s c)
under-sent c s may h p channel r ask at is other = elim (At-snoc c.up s p r at) [
  | inl old ↦
      let b = h p channel r ask old is other in
      (b.0, b.1, before-sent c s channel b.0 b.1 (sid_in r.message) p (let lt : p < length c.up = At-within c.up p r old in omega (arith, lt)) b.2)
  | inr new ↦
      let b = may channel ask (ap (λ (z : Sent). z.intent) (sym new.1) ∙ is) other in
      let now : IsCreatedBefore (with_sent s c) channel b.0 b.1 (sid_in s.message) (length c.up) = before-sent c s channel b.0 b.1 (sid_in s.message) (length c.up) (omega arith) b.2 in
      (b.0, b.1, subst (λ (z : ℕ × Sent). IsCreatedBefore (with_sent s c) channel b.0 b.1 (sid_in z.1.message) z.0) (λ i. (sym new.0 i, sym new.1 i)) now)
]

pub between-sent : (c : Circuit) (s : Sent)
    → ((p channel i sid : ℕ) (r : Sent) (t : Told) → s.intent ≡ On channel Create → At c.up p r → r.intent ≡ On channel Create → At c.down i t → t.place ≡ p → t.cause ≡ Reply → Creates t.message sid → IsClearedWithin c.up sid p (length c.up))
    → AreClearedBetween c → AreClearedBetween (with_sent s c)
between-sent c s may h p k channel i sid r q t lt at_r at_q is_r is_q told about reply creates = elim (At-snoc c.up s k q at_q) [
  | inl old ↦ elim (At-snoc c.up s p r at_r) [
    | inl was ↦ more (h p k channel i sid r q t lt was old is_r is_q told about reply creates)
    | inr last ↦ absurd (let e : p ≡ length c.up = last.0 in let w : k < length c.up = At-within c.up k q old in omega (arith, e, w, lt))
  ]
  | inr new ↦ elim (At-snoc c.up s p r at_r) [
    | inl was ↦
        subst (λ (n : ℕ). IsClearedWithin (c.up ++ s ∷ []) sid p n) (sym new.0)
        (more (may p channel i sid r t (ap (λ (z : Sent). z.intent) (sym new.1) ∙ is_q) was is_r told about reply creates))
    | inr last ↦ absurd (let e : p ≡ length c.up = last.0 in let f : k ≡ length c.up = new.0 in omega (arith, e, f, lt))
  ]
]
  where
    more : {a b : ℕ} → IsClearedWithin c.up sid a b → IsClearedWithin (c.up ++ s ∷ []) sid a b
    more w = (w.0, w.1, w.2, w.3, At-append c.up (s ∷ []) w.0 w.1 w.4, w.5)

-- ---- a message is told

pub under-told : (c : Circuit) (t : Told) → AreUnder c → AreUnder (with_told t c)
under-told c t h p channel r ask at is other =
    let b = h p channel r ask at is other in (
      b.0,
      b.1,
      record {
        t = (b.2).t;
        r = (b.2).r;
        told = (At-append c.down (t ∷ []) b.0 (b.2).t (b.2).told.0, (b.2).told.1, (b.2).told.2, (b.2).told.3);
        asked = (b.2).asked;
        early = (b.2).early;
        since = (b.2).since;
      },
    )

-- one by which a channel was created after whose CREATE_CHAN none was sent on the channel
pub between-told : (c : Circuit) (t : Told)
    → ((k channel sid : ℕ) (r q : Sent) → t.cause ≡ Reply → Creates t.message sid → At c.up t.place r → r.intent ≡ On channel Create → t.place < k → At c.up k q → q.intent ≡ On channel Create → ⊥)
    → AreClearedBetween c → AreClearedBetween (with_told t c)
between-told c t none h p k channel i sid r q u lt at_r at_q is_r is_q told about reply creates = elim (At-snoc c.down t i u told) [
  | inl old ↦ h p k channel i sid r q u lt at_r at_q is_r is_q old about reply creates
  | inr new ↦
      let place : t.place ≡ p = ap (λ (z : Told). z.place) (sym new.1) ∙ about in
      absurd (none k channel sid r q (ap (λ (z : Told). z.cause) (sym new.1) ∙ reply) (subst (λ (z : Told). Creates z.message sid) new.1 creates) (subst (λ (n : ℕ). At c.up n r) (sym place) at_r) is_r (subst (λ (n : ℕ). n < k) (sym place) lt) at_q is_q)
]
