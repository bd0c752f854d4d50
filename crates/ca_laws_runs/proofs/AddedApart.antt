-- Between two EVENT_ADDs of one subscription its channel was created again, as more messages
-- are sent on a circuit.
use Rattle.std.proofs.Common.{◌≡◌, ℕ, zero, suc, ◌+◌, ◌<◌, inl, inr, Bool, true, false, cond, List, [], ◌∷◌, ◌++◌, length, refl, sym, ap, ◌∙◌, subst, arith}
use Rattle.std.specs.Prelude.{filter, map}
use Rattle.ca_text.specs.Place.{At}
use Rattle.ca_text.proofs.Places.{some_is, At-append, At-mapped, At-parts, At-within}
use Rattle.ca_arena.specs.declared.handle.Handle.{Handle}
use Rattle.ca_ids.specs.Table.{same_handle}
use Rattle.ca_model.specs.Answers.{Sending}
use Rattle.ca_model.specs.History.{Create, On, Sent, Subscribe}
use Rattle.ca_model.specs.World.{Names}
use Rattle.ca_laws_parts.specs.Circuit.{stamped}
use Rattle.ca_laws_runs.specs.Quiet.{AreAddedApart}

-- a message that is no EVENT_ADD
abbrev pub IsPlain : Sent → Type 0
IsPlain s = (a m : ℕ) → s.intent ≡ On a (Subscribe m) → ⊥

-- these are sent
pub apart-more : (up ss : List Sent) → ((k i a m : ℕ) (r s : Sent) → At up k r → At ss i s → r.intent ≡ On a (Subscribe m) → s.intent ≡ On a (Subscribe m) → (p : ℕ) × (q : Sent) × (k < p) × At up p q × (q.intent ≡ On a Create))
    → ((i j a m : ℕ) (r s : Sent) → i < j → At ss i r → At ss j s → r.intent ≡ On a (Subscribe m) → s.intent ≡ On a (Subscribe m) → ⊥) → AreAddedApart up → AreAddedApart (up ++ ss)
apart-more up ss olds news h k l a m r s lt at_r at_s is_r is_s = elim (At-parts up ss l s at_s) [
  | inl old ↦ elim (At-parts up ss k r at_r) [
    | inl was ↦ (let b = h k l a m r s lt was old is_r is_s in (b.0, b.1, b.2, b.3, At-append up ss b.0 b.1 b.4, b.5))
    | inr late ↦ absurd (let in_it : l < length up = At-within up l s old in let e : k ≡ length up + late.0 = late.1 in omega (arith, in_it, e, lt))
  ]
  | inr new ↦ elim (At-parts up ss k r at_r) [
    | inl was ↦
        let b = olds k new.0 a m r s was new.2 is_r is_s in
        let in_it : b.0 < length up = At-within up b.0 b.1 b.3 in
        let e : l ≡ length up + new.0 = new.1 in
        (b.0, b.1, b.2, omega (arith, in_it, e), At-append up ss b.0 b.1 b.3, b.4)
    | inr late ↦ absurd (let e : l ≡ length up + new.0 = new.1 in let f : k ≡ length up + late.0 = late.1 in news late.0 new.0 a m r s (omega (arith, e, f, lt)) late.2 new.2 is_r is_s)
  ]
]

-- none is an EVENT_ADD
pub apart-plain : (up ss : List Sent) → ((i : ℕ) (s : Sent) → At ss i s → IsPlain s) → AreAddedApart up → AreAddedApart (up ++ ss)
apart-plain up ss plain = apart-more up ss (λ k i a m r s at_r at_s is_r is_s. absurd (plain i s at_s a m is_s)) (λ i j a m r s lt at_r at_s is_r is_s. plain i r at_r a m is_r)

one-item : (s r : Sent) (i : ℕ) → At (s ∷ []) i r → (i ≡ 0) × (r ≡ s)
one-item s r zero at = (refl, sym (some_is s r at))
one-item s r (suc i) at = absurd cc

-- one message
pub apart-one : (up : List Sent) (s : Sent) → IsPlain s → AreAddedApart up → AreAddedApart (up ++ s ∷ [])
apart-one up s plain = apart-plain up (s ∷ []) (λ i r at a m is. plain a m (ap (λ (z : Sent). z.intent) (sym (one-item s r i at).1) ∙ is))

-- the first EVENT_ADD of a subscription
pub apart-first : (up : List Sent) (s : Sent) → ((k a m : ℕ) (r : Sent) → At up k r → r.intent ≡ On a (Subscribe m) → s.intent ≡ On a (Subscribe m) → ⊥) → AreAddedApart up → AreAddedApart (up ++ s ∷ [])
apart-first up s first =
    apart-more up (s ∷ [])
    (λ k i a m r x at_r at_x is_r is_x. absurd (first k a m r at_r is_r (ap (λ (z : Sent). z.intent) (sym (one-item s x i at_x).1) ∙ is_x)))
    (λ i j a m r x lt at_r at_x is_r is_x. (let e : i ≡ 0 = (one-item s r i at_r).0 in let f : j ≡ 0 = (one-item s x j at_x).0 in omega (arith, e, f, lt)))

-- ---- what is sent on one circuit

plain-filtered : (n : Names) (p : Sending → Bool) (sent : List Sending) → ((i : ℕ) (s : Sending) → At sent i s → IsPlain (stamped n s)) → (i : ℕ) (s : Sent) → At (map (stamped n) (filter p sent)) i s → IsPlain s
plain-filtered n p sent plain i s at =
    let m = At-mapped (stamped n) (filter p sent) i s at in
    subst (λ (z : Sent). IsPlain z) (sym m.2) (kept sent i m.0 plain m.1)
  where
    kept : (xs : List Sending) (i : ℕ) (x : Sending) → ((i : ℕ) (s : Sending) → At xs i s → IsPlain (stamped n s)) → At (filter p xs) i x → IsPlain (stamped n x)
    kept [] i x each at = absurd cc
    kept (y ∷ xs) i x each at = go (p y) i at (λ j there. kept xs j x (λ k s place. each (suc k) s place) there)
      where
        go : (b : Bool) (i : ℕ) → At (cond b (y ∷ filter p xs) (filter p xs)) i x → ((j : ℕ) → At (filter p xs) j x → IsPlain (stamped n x)) → IsPlain (stamped n x)
        go true zero at rest = subst (λ (z : Sending). IsPlain (stamped n z)) (some_is y x at) (each 0 y refl)
        go true (suc i) at rest = rest i at
        go false i at rest = rest i at

-- of a call by which no EVENT_ADD is sent
pub apart-said : (n : Names) (on : Handle) (up : List Sent) (sent : List Sending) → ((i : ℕ) (s : Sending) → At sent i s → IsPlain (stamped n s)) → AreAddedApart up
    → AreAddedApart (up ++ map (stamped n) (filter (λ (s : Sending). same_handle s.circuit on) sent))
apart-said n on up sent plain = apart-plain up (map (stamped n) (filter (λ (s : Sending). same_handle s.circuit on) sent)) (plain-filtered n (λ (s : Sending). same_handle s.circuit on) sent plain)

-- and if its end may be closed
pub apart-if : (n : Names) (on : Handle) (up : List Sent) (sent : List Sending) (b : Bool) → ((i : ℕ) (s : Sending) → At sent i s → IsPlain (stamped n s)) → AreAddedApart up
    → AreAddedApart (up ++ cond b (map (stamped n) (filter (λ (s : Sending). same_handle s.circuit on) sent)) [])
apart-if n on up sent true plain h = apart-said n on up sent plain h
apart-if n on up sent false plain h = apart-plain up [] (λ i s at. absurd cc) h
