-- When an id is free again, and what a message that was read is about.
use Rattle.std.proofs.Common.{◌≡◌, ℕ, ◌+◌, ◌<◌, ◌≤◌, inl, inr, List, [], ◌∷◌, ◌++◌, length, Some, sym, ap, ◌∙◌, subst, arith}
use Rattle.ca_text.specs.Place.{At}
use Rattle.ca_text.proofs.Places.{some_is, At-one}
use Rattle.ca_model.specs.Speech.{Id, Cid, Ioid, SubId, Gives, Speaks}
use Rattle.ca_model.specs.History.{Reply, Sent, Told, Step, Circuit}
use Rattle.ca_model.specs.Channels.{named}
use Rattle.ca_laws_parts.specs.Flows.{Concerns, Flows, IsGiven, IsLast, IsPending, MeansOwn, NoMore, with_heard}
use Rattle.ca_model.proofs.Tables.{length-more}
use Rattle.ca_laws_parts.proofs.Flows.{given-now}
use Rattle.ca_model.proofs.Thinner.{three-ways}

-- an id was given last at one place, to one thing
pub one-giver : (up : List Sent) (id : Id) (k l m n : ℕ) → IsGiven up id k m → IsGiven up id l n → (k ≡ l) × (m ≡ n)
one-giver up id k l m n a b =
    elim (three-ways k l) [
      | inl lt ↦ absurd (a.4 l b.0 lt b.1 b.2)
      | inr (inl is) ↦
          let same : a.0 ≡ b.0 = At-one up l a.0 b.0 (subst (λ (x : ℕ). At up x a.0) is a.1) b.1 in
          (is, some_is m n (sym a.3 ∙ ap (λ (s : Sent). named id s.intent) same ∙ b.3))
      | inr (inr lt) ↦ absurd (b.4 k a.0 lt a.1 a.2)
    ]

-- an IOID concerns the message that gave it, and no other
pub ioid-gives : (up : List Sent) (p n : ℕ) → Concerns up p (Ioid n) → (s : Sent) × At up p s × Gives s.message (Ioid n)
ioid-gives up p n h = elim h.2 [
  | inl gives ↦ (h.0, h.1, gives)
  | inr (inl clears) ↦ absurd (no_cid n h.0.message.p2 clears.1)
  | inr (inr (inl cancels)) ↦ absurd (no_sub n h.0.message.p2 cancels.1)
  | inr (inr (inr writes)) ↦ absurd (no_cid n writes.1.0 writes.1.2)
]
  where
    no_cid : (a b : ℕ) → Ioid a ≡ Cid b → ⊥
    no_cid a b e = cc

    no_sub : (a b : ℕ) → Ioid a ≡ SubId b → ⊥
    no_sub a b e = cc

module _ (Awaits : ℕ → Type 0) where
  pub pending-concerns : (c : Circuit) (p : ℕ) (id : Id) → Flows Awaits c → IsPending Awaits c p id → Concerns c.up p id
  pending-concerns c p id f h = elim h [
    | inl may ↦ may.1
    | inr sent ↦ subst (λ (q : ℕ). Concerns c.up q id) sent.4 (f.concerns sent.0 sent.1 id sent.2 sent.5)
  ]

  -- what may still come means its own
  pub pending-means : (c : Circuit) (p : ℕ) (id : Id) → Flows Awaits c → IsPending Awaits c p id → MeansOwn c.up p id
  pending-means c p id f h = elim h [
    | inl may ↦ f.next p id may.0 may.1
    | inr sent ↦ subst (λ (q : ℕ). MeansOwn c.up q id) sent.4 (given-now c sent.0 sent.1.place id sent.3 (f.own sent.0 sent.1 id sent.2 sent.5))
  ]

  -- What holds an id finds by it messages that are about what it was given to.
  pub read-means : (c : Circuit) (t : Told) (id : Id) (k number : ℕ) → Flows Awaits c → At c.down (length c.heard) t → Speaks t.message id → IsGiven c.up id k number
      → (r : Sent) × At c.up t.place r × (named id r.intent ≡ Some number) × (k ≤ t.place)
  read-means c t id k number f at speaks given =
      let m : MeansOwn c.up t.place id = given-now c (length c.heard) t.place id (omega arith) (f.own (length c.heard) t id at speaks) in
      let same = one-giver c.up id m.0 k m.1 number m.3 given in
      (m.2, m.5, m.6 ∙ ap (λ (n : ℕ). Some n) same.1, (let le : m.0 ≤ t.place = m.4 in let e : m.0 ≡ k = same.0 in omega (arith, le, e)))

  -- once the last message about a place was read nothing about it is pending
  pub none-pending : (c : Circuit) (h : Step) (p : ℕ) (id : Id) → NoMore Awaits c (length c.heard) p → IsPending Awaits (with_heard h c) p id → ⊥
  none-pending c h p id none pending =
      let len : length (c.heard ++ h ∷ []) ≡ length c.heard + 1 = length-more c.heard h in
      elim pending [
        | inl may ↦ none.0 may.0
        | inr sent ↦
            let le : sent.0 ≤ length c.heard = none.1 sent.0 sent.1 sent.2 sent.4 in
            let late : length (c.heard ++ h ∷ []) ≤ sent.0 = sent.3 in
            omega (arith, le, late, len)
      ]

  -- what is pending after a message was read was so before
  pub pending-before : (c : Circuit) (h : Step) (p : ℕ) (id : Id) → IsPending Awaits (with_heard h c) p id → IsPending Awaits c p id
  pending-before c h p id pending =
      let len : length (c.heard ++ h ∷ []) ≡ length c.heard + 1 = length-more c.heard h in
      elim pending [
        | inl may ↦ inl may
        | inr sent ↦ inr (sent.0, sent.1, sent.2, (let late : length (c.heard ++ h ∷ []) ≤ sent.0 = sent.3 in omega (arith, late, len)), sent.4, sent.5)
      ]

  -- once its last message was read an id that a message gave is free, if nothing
  -- after it concerns the id
  pub settled : (c : Circuit) (h : Step) (t : Told) (s : Sent) (id : Id) → Flows Awaits c → At c.down (length c.heard) t → t.cause ≡ Reply → At c.up t.place s → IsLast t.message s.intent
      → Gives s.message id → Speaks t.message id → ((p : ℕ) → t.place < p → Concerns c.up p id → ⊥) → (p : ℕ) → IsPending Awaits (with_heard h c) p id → ⊥
  settled c h t s id f at cause there is gives speaks none p pending =
      let before : IsPending Awaits c p id = pending-before c h p id pending in
      let m : MeansOwn c.up p id = pending-means c p id f before in
      let own : MeansOwn c.up t.place id = given-now c (length c.heard) t.place id (omega arith) (f.own (length c.heard) t id at speaks) in
      let same = one-giver c.up id m.0 own.0 m.1 own.1 m.3 own.3 in
      elim (three-ways p t.place) [
        | inl lt ↦
            let le : m.0 ≤ p = m.4 in
            let e : m.0 ≡ own.0 = same.0 in
            own.3.4 t.place s (omega (arith, lt, le, e)) there gives
        | inr (inl is_it) ↦
            none-pending c h t.place id (f.last (length c.heard) t s at cause there is) (subst (λ (q : ℕ). IsPending Awaits (with_heard h c) q id) is_it pending)
        | inr (inr lt) ↦ none p lt (pending-concerns c p id f before)
      ]

  -- The reply to a read or to a put frees its IOID.
  pub settled-request : (c : Circuit) (h : Step) (t : Told) (s : Sent) (n : ℕ) → Flows Awaits c → At c.down (length c.heard) t → t.cause ≡ Reply → At c.up t.place s → IsLast t.message s.intent
      → Speaks t.message (Ioid n) → (p : ℕ) → IsPending Awaits (with_heard h c) p (Ioid n) → ⊥
  settled-request c h t s n f at cause there is speaks =
      let mine = ioid-gives c.up t.place n (f.concerns (length c.heard) t (Ioid n) at speaks) in
      let same : mine.0 ≡ s = At-one c.up t.place mine.0 s mine.1 there in
      let gives : Gives s.message (Ioid n) = subst (λ (x : Sent). Gives x.message (Ioid n)) same mine.2 in
      let own : MeansOwn c.up t.place (Ioid n) = given-now c (length c.heard) t.place (Ioid n) (omega arith) (f.own (length c.heard) t (Ioid n) at speaks) in
      settled c h t s (Ioid n) f at cause there is gives speaks (λ p lt concerns.
      let later = ioid-gives c.up p n concerns in
      own.3.4 p later.0 (let le : own.0 ≤ t.place = own.4 in omega (arith, le, lt)) later.1 later.2)
