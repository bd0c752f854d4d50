-- An update that leaves the queues has its subscription.
use Rattle.std.proofs.Common.{◌≡◌, ℕ, Bool, true, false, cond, List, [], ◌∷◌, Option, Some, None, is_some, refl, sym, ap, ◌∙◌, subst, arith}
use Rattle.std.specs.Prelude.{length, slice_set}
use Rattle.std.specs.Map.{lookup}
use Rattle.std.proofs.lemmas.Bool.{both_ways, or_left}
use Rattle.ca_text.proofs.Places.{At-map, some_is}
use Rattle.ca_queue.specs.declared.entry.SubKey.{SubKey}
use Rattle.ca_queue.specs.Circuit.{RestBefore, Takes}
use Rattle.ca_queue.specs.Sound.{IsSound}
use Rattle.ca_queue.specs.Keys.{is_among, same}
use Rattle.ca_queue.specs.Queue.{with_front_taken}
use Rattle.ca_queue.specs.Waiting.{front, has_entry, may_take, taken}
use Rattle.ca_queue.proofs.Keys.{same_itself}
use Rattle.ca_wire.specs.declared.requests.Wanted.{Wanted}
use Rattle.ca_model.specs.Server.{Subscription, key_of}
use Rattle.ca_model.specs.Speech.{Stored}
use Rattle.ca_server_subscriptions.specs.Pumping.{GivesUpdate, MayGive}
use Rattle.ca_server_subscriptions.specs.Subscribed.{AreAskable, ArePlaced, IsAskable, Standings, Subscribed, keys_in, subscriptions_in}
use Rattle.ca_server_subscriptions.proofs.Placing.{Q, alike-taken, held, looked-up, placed-alike, whole}

-- ---- without a subscription nothing waits

module _ (es : Standings) (qs : List Q) (p : ArePlaced es qs) (none : length es ≡ 0) where
  nobody : (key : SubKey) → is_among key (keys_in es) ≡ false
  nobody key = by es none
    where
      by : (xs : Standings) → length xs ≡ 0 → is_among key (keys_in xs) ≡ false
      by [] is = refl
      by (x ∷ xs) is = absurd (omega (arith, is))

  nothing-waits : (q : Q) (ws : List (SubKey × Stored)) → q.waiting ≡ ws → IsSound q → ((key : SubKey) → is_among key q.subscriptions ≡ true → is_among key (keys_in es) ≡ true) → ws ≡ []
  nothing-waits q [] is sound known = refl
  nothing-waits q (w ∷ ws) is sound known =
      let first : has_entry w.0 (w ∷ ws) ≡ true = or_left (same w.0 w.0) (has_entry w.0 ws) (same_itself w.0) in
      let here : has_entry w.0 q.waiting ≡ true = ap (λ (x : List (SubKey × Stored)). has_entry w.0 x) is ∙ first in
      absurd (both_ways (is_among w.0 (keys_in es)) (nobody w.0) (known w.0 (sound.known w.0 here)))

  idle : (on : Bool) → (let ws : List (SubKey × Stored) = [] in let none : Option (SubKey × Stored) = None in taken on ws ≡ none)
  idle true = refl
  idle false = refl

  pub none-rests : RestBefore qs (length qs)
  none-rests i r within at =
      let empty : r.waiting ≡ [] = nothing-waits r r.waiting refl (p.sound i r at) (λ key. p.known i r key at) in
      ap (λ (ws : List (SubKey × Stored)). taken r.events_on ws) empty ∙ idle r.events_on

-- ---- what is taken has a subscription

front-has : (ws : List (SubKey × Stored)) (key : SubKey) (v : Stored) → front ws ≡ Some (key, v) → has_entry key ws ≡ true
front-has [] key v is = absurd cc
front-has (w ∷ ws) key v is =
    let one : w ≡ (key, v) = some_is w (key, v) is in
    let here : same key w.0 ≡ true = ap (λ (x : SubKey × Stored). same key x.0) one ∙ same_itself key in
    or_left (same key w.0) (has_entry key ws) here

taken-has : (on : Bool) (ws : List (SubKey × Stored)) (key : SubKey) (v : Stored) → taken on ws ≡ Some (key, v) → has_entry key ws ≡ true
taken-has on ws key v is = by (may_take on ws) refl
  where
    by : (b : Bool) → may_take on ws ≡ b → has_entry key ws ≡ true
    by true e = front-has ws key v (sym (ap (λ (b : Bool). cond b (front ws) None) e) ∙ is)
    by false e = nothing (sym (ap (λ (b : Bool). cond b (front ws) None) e) ∙ is)
      where
        nothing : {A : Type 0} → (let none : Option (SubKey × Stored) = None in none ≡ Some (key, v)) → A
        nothing e = absurd cc

module _ (es : Standings) (qs : List Q) (p : ArePlaced es qs) (place : ℕ) (key : SubKey) (v : Stored) (qs2 : List Q) (t : Takes qs (Some (place, key, v)) qs2) where
  among : is_among key (keys_in es) ≡ true
  among = p.known place t.0 key t.1 ((p.sound place t.0 t.1).known key (taken-has t.0.events_on t.0.waiting key v t.3))

  pub placed-taken : ArePlaced es qs2
  placed-taken = subst (λ (rs : List Q). ArePlaced es rs) (sym t.4) (placed-alike es qs (slice_set qs place (with_front_taken t.0)) (alike-taken qs place t.0 t.1) p)

  pub taken-some : (let none : Option (Subscription × ℕ) = None in lookup (same key) es ≡ none) → ⊥
  taken-some missing =
      both_ways (is_among key (keys_in es)) (sym (held key es) ∙ ap (λ (o : Option (Subscription × ℕ)). is_some o) missing) among

  pub gives-one : (old : Subscribed) (x : Subscription × ℕ) (w : Wanted) → whole es qs p ≡ old → lookup (same key) es ≡ Some x → w ≡ x.0.wanted
      → GivesUpdate old (Some (w, v)) (record { subscriptions = subscriptions_in es; queues = qs2 })
  gives-one old x w is found wants =
      let f = looked-up key es x found in
      let s : Subscription = f.1.1.0 in
      let keyed : key ≡ key_of s = sym f.3 ∙ p.keyed f.0 f.1 f.2 in
      subst (λ (o : Subscribed). GivesUpdate o (Some (w, v)) (record { subscriptions = subscriptions_in es; queues = qs2 })) is (
        place,
        t.0,
        s,
        t.1,
        t.2,
        t.3 ∙ ap (λ (k : SubKey). Some (k, v)) keyed,
        (f.0, At-map (λ (e : SubKey × (Subscription × ℕ)). e.1.0) es f.0 f.1 f.2),
        ap (λ (y : Subscription × ℕ). y.0.wanted) f.4 ∙ sym wants,
        (λ i. record { subscriptions = subscriptions_in es; queues = t.4 i }),
      )

-- one may be taken, for whoever asked so
pub may-give : (es : Standings) (qs : List Q) (p : ArePlaced es qs) (place : ℕ) (key : SubKey) (v : Stored) (qs2 : List Q) → Takes qs (Some (place, key, v)) qs2 → (old : Subscribed) → whole es qs p ≡ old → AreAskable es
    → (w : Wanted) × ((u : Stored) × (IsAskable w × MayGive old w u))
may-give es qs p place key v qs2 t old is askable = by (lookup (same key) es) refl
  where
    by : (found : Option (Subscription × ℕ)) → lookup (same key) es ≡ found → (w : Wanted) × ((u : Stored) × (IsAskable w × MayGive old w u))
    by None none = absurd (taken-some es qs p place key v qs2 t none)
    by (Some x) one =
        let l = looked-up key es x one in (
          x.0.wanted,
          (
            v,
            (
              subst (λ (y : Subscription × ℕ). IsAskable y.0.wanted) l.4 (askable l.0 l.1 l.2),
              (record { subscriptions = subscriptions_in es; queues = qs2 }, gives-one es qs p place key v qs2 t old x x.0.wanted is one refl),
            ),
          ),
        )
