-- Numbers of posts wait on circuits as they are kept.
use Rattle.std.proofs.Common.{◌≡◌, ℕ, ◌+◌, ◌<◌, inl, inr, Bool, true, List, [], ◌∷◌, Option, Some, None, length, refl, sym, ap, subst, ◌∙◌, arith}
use Rattle.std.specs.Prelude.{filter, if◌then◌else◌, map, option_to_list, slice_get, slice_set}
use Rattle.std.specs.List.{fold}
use Rattle.ca_queue.specs.declared.entry.SubKey.{SubKey}
use Rattle.ca_queue.specs.Circuit.{AreInOne, HasAt}
use Rattle.ca_queue.specs.Keys.{is_among}
use Rattle.ca_queue.specs.Queue.{Queue, posted}
use Rattle.ca_queue.proofs.Images.{posted_images}
use Rattle.ca_text.specs.Place.{At}
use Rattle.ca_text.proofs.Places.{At-map, At-mapped, At-one, At-set, At-within}
use Rattle.ca_model.specs.History as history
use Rattle.ca_model.specs.Server.{Ended, Open, ServerCircuit, ServerEnd, Subscription, concerns, key_of}
use Rattle.ca_model.specs.Speech.{Stored}
use Rattle.ca_model.specs.ServerEvents.{with_number}
use Rattle.ca_model.specs.World.{Joined, Standing}
use Rattle.ca_server_core.specs.ForHistories.{ConcernsUnder}
use Rattle.ca_world_data.specs.declared.history.Cause.{Cause}
use Rattle.ca_world_data.specs.declared.history.Cause.TheVariants as cause
use Rattle.ca_world_data.specs.declared.joined.Joined.{Joined as Opened}
use Rattle.ca_world_data.specs.declared.joined.AddedSubscription.{AddedSubscription as AddedSubscription}
use Rattle.ca_world_data.specs.Numbering.{AreAlike, HasKeyAt, IsAlike, IsPlaced, keys_at, keys_within, post_limit, with_counted}
use Rattle.ca_world_data.specs.Seen.{cause_of, joined_of, queue_of, standing_of}
use Rattle.ca_world_data.proofs.Gone.{from-here, map_from}
use Rattle.ca_world_data.proofs.Numbers.{number-one}
use Rattle.ca_world_data.proofs.Worlds.{set-map}

abbrev Q : Type 0
Q = Queue (ℕ × history.Cause)

-- what a queue is worth
abbrev pub queue_in : Queue (ℕ × Cause) × Bool → Q
queue_in w = queue_of w.0

-- ---- a queue

-- an entry that was put
pub waits-so : (ws : List (Queue (ℕ × Cause) × Bool)) (n : ℕ) (w new : Queue (ℕ × Cause) × Bool) (key : SubKey) (place number : ℕ) (q : Q) → At ws n w → new.0 ≡ posted key (place, cause.Update number) w.0 → At (map queue_in ws) n q
    → map queue_in (slice_set ws n new) ≡ slice_set (map queue_in ws) n (posted key (place, history.Update number) q)
waits-so ws n w new key place number q at is there =
    let same : q ≡ queue_in w = At-one (map queue_in ws) n q (queue_in w) there (At-map queue_in ws n w at) in
    set-map queue_in ws n new
    ∙ ap (slice_set (map queue_in ws) n)
    (ap queue_of is ∙ sym (posted_images (λ (item : ℕ × Cause). (item.0, cause_of item.1)) key (place, cause.Update number) w.0) ∙ ap (posted key (place, history.Update number)) (sym same))

-- the queue that has it, as it is kept
pub key-kept : (ws : List (Queue (ℕ × Cause) × Bool)) (n : ℕ) (key : SubKey) (q : Q) → At (map queue_in ws) n q → is_among key q.subscriptions ≡ true → HasKeyAt ws n key
key-kept ws n key q at among =
    let d = At-mapped queue_in ws n q at in (d.0, d.1, subst (λ (z : Q). is_among key z.subscriptions ≡ true) d.2 among)

-- ---- a subscription

-- none is concerned there
pub at-none : (name : List ℕ) (mask p : ℕ) (c : Option ServerCircuit) (j : Joined) → ConcernsUnder name mask p c None → j ≡ fold with_number j (keys_at name mask p c)
at-none name mask p None j none = refl
at-none name mask p (Some (Ended w left)) j none = refl
at-none name mask p (Some (Open e)) j none = ap (λ (t : List SubKey). fold with_number j t) (sym (go (slice_get e.subscriptions p) refl))
  where
    go : (o : Option Subscription) → slice_get e.subscriptions p ≡ o → map key_of (filter (concerns name mask) (option_to_list (slice_get e.subscriptions p))) ≡ []
    go None is = ap (λ (z : Option Subscription). map key_of (filter (concerns name mask) (option_to_list z))) is
    go (Some s) is =
        ap (λ (z : Option Subscription). map key_of (filter (concerns name mask) (option_to_list z))) is
        ∙ ap (λ (b : Bool). map key_of (if b then s ∷ [] else [])) (none s is)

-- one is: it is on the circuit, in the queue of that place
module _ (name : List ℕ) (mask p n : ℕ) (e : ServerEnd) (j : Joined) (alike : AreAlike e j) (d : ConcernsUnder name mask p (Some (Open e)) (Some n)) where
  abbrev s : Subscription
  s = d.0

  stands : (st : Standing) × At j.standing p st × (key_of s ≡ st.key)
  stands = At-mapped (λ (x : Standing). x.key) j.standing p (key_of s) (subst (λ (l : List SubKey). At l p (key_of s)) alike.keys (At-map key_of e.subscriptions p s d.1))

  has : (q : Q) × At j.queues n q × (is_among (key_of s) q.subscriptions ≡ true)
  has =
      let h : HasAt e.queues n (key_of s) = d.3 in
      let there : At (keys_within j.queues) n h.0.subscriptions = subst (λ (l : List (List SubKey)). At l n h.0.subscriptions) (sym alike.queues) (At-map (λ (q : Queue Stored). q.subscriptions) e.queues n h.0 h.1) in
      let m = At-mapped (λ (q : Q). q.subscriptions) j.queues n h.0.subscriptions there in
      (m.0, m.1, ap (is_among (key_of s)) (sym m.2) ∙ h.2)

  in-one : AreInOne j.queues
  in-one a b key x y = d.4 a b key (over a key x) (over b key y)
    where
      over : (i : ℕ) (key : SubKey) → HasAt j.queues i key → HasAt e.queues i key
      over i key h =
          let there : At (keys_within e.queues) i h.0.subscriptions = subst (λ (l : List (List SubKey)). At l i h.0.subscriptions) alike.queues (At-map (λ (q : Q). q.subscriptions) j.queues i h.0 h.1) in
          let m = At-mapped (λ (q : Queue Stored). q.subscriptions) e.queues i h.0.subscriptions there in
          (m.0, m.1, ap (is_among key) (sym m.2) ∙ h.2)

  placed-open : ((st : Standing) → At j.standing p st → st.posts < post_limit) → IsPlaced p n j
  placed-open few = record {
    s = stands.0;
    at = stands.1;
    q = has.0;
    in_it = has.1;
    among = ap (λ (k : SubKey). is_among k has.0.subscriptions) (sym stands.2) ∙ has.2;
    few = few stands.0 stands.1;
  }

  counted-open : (h : IsPlaced p n j) → with_counted h ≡ fold with_number j (keys_at name mask p (Some (Open e)))
  counted-open h =
      let same : h.s ≡ stands.0 = At-one j.standing p h.s stands.0 h.at stands.1 in
      let key : h.s.key ≡ key_of s = ap (λ (z : Standing). z.key) same ∙ sym stands.2 in
      let keys : keys_at name mask p (Some (Open e)) ≡ key_of s ∷ [] =
      ap (λ (z : Option Subscription). map key_of (filter (concerns name mask) (option_to_list z))) d.1 ∙ ap (λ (b : Bool). map key_of (if b then s ∷ [] else [])) d.2 in
      number-one j p n h.s h.q alike.apart in-one h.at h.in_it h.among ∙ ap (with_number j) key ∙ sym (ap (fold with_number j) keys)

pub placed-there : (name : List ℕ) (mask p n : ℕ) (c : Option ServerCircuit) (j : Opened) → IsAlike c (joined_of j) → ConcernsUnder name mask p c (Some n) → ((s : AddedSubscription) → At j.standing.items p s → s.posts < post_limit) → IsPlaced p n (joined_of j)
placed-there name mask p n (Some (Open e)) j alike d few = placed-open name mask p n e (joined_of j) alike d (λ st at. (let m = At-mapped standing_of j.standing.items p st at in subst (λ (z : Standing). z.posts < post_limit) (sym m.2) (few m.0 m.1)))
placed-there name mask p n (Some (Ended w left)) j alike d few = absurd cc
placed-there name mask p n None j alike d few = absurd cc

pub counted-there : (name : List ℕ) (mask p n : ℕ) (c : Option ServerCircuit) (j new : Joined) → IsAlike c j → ConcernsUnder name mask p c (Some n) → (h : IsPlaced p n j) → new ≡ with_counted h → new ≡ fold with_number j (keys_at name mask p c)
counted-there name mask p n (Some (Open e)) j new alike d h is = is ∙ counted-open name mask p n e j alike d h
counted-there name mask p n (Some (Ended w left)) j new alike d h is = absurd cc
counted-there name mask p n None j new alike d h is = absurd cc

-- one more is counted
pub counts-so : (j new : Opened) (p n : ℕ) (s next : AddedSubscription) (h : IsPlaced p n (joined_of j)) → At j.standing.items p s → next ≡ record s { posts = s.posts + 1 }
    → joined_of new ≡ record (joined_of j) { standing = map standing_of (slice_set j.standing.items p next); queues = slice_set (joined_of j).queues n (posted s.key (s.place, history.Update s.posts) h.q) }
    → joined_of new ≡ with_counted h
counts-so j new p n s next h at is so =
    let same : h.s ≡ standing_of s = At-one (map standing_of j.standing.items) p h.s (standing_of s) h.at (At-map standing_of j.standing.items p s at) in
    so ∙ (λ t. record (joined_of j) {
      standing = (set-map standing_of j.standing.items p next ∙ ap (slice_set (map standing_of j.standing.items) p) (ap standing_of is ∙ (λ u. record (sym same u) { posts = (sym same u).posts + 1 }))) t;
      queues = slice_set (joined_of j).queues n (posted (sym same t).key ((sym same t).place, history.Update (sym same t).posts) h.q);
    })

-- the others stay
pub others-stay : (ss : List AddedSubscription) (p : ℕ) (next : AddedSubscription) (i : ℕ) (s : AddedSubscription) → p < i → At (slice_set ss p next) i s → At ss i s
others-stay ss p next i s lt at = elim (At-set ss p next i s at) [
  | inl here ↦ (let e = here.0 in absurd (omega (arith, lt, e)))
  | inr old ↦ old.0
]

-- ---- circuit by circuit

pub each-next : (f : Joined → Joined) (i : ℕ) (ks : List Opened) (j new : Opened) → At ks i j → joined_of new ≡ f (joined_of j) → map_from (i + 1) f (map joined_of (slice_set ks i new)) ≡ map_from i f (map joined_of ks)
each-next f i ks j new at is =
    ap (map_from (i + 1) f) (set-map joined_of ks i new ∙ ap (slice_set (map joined_of ks) i) is) ∙ from-here i f (map joined_of ks) (joined_of j) (At-map joined_of ks i j at)

-- ---- what is at a place

pub place-within : (p n : ℕ) (j : Opened) → IsPlaced p n (joined_of j) → p < length j.standing.items
place-within p n j h = (let m = At-mapped standing_of j.standing.items p h.s h.at in At-within j.standing.items p m.0 m.1)

pub key-there : (p n : ℕ) (j : Opened) (s : AddedSubscription) → IsPlaced p n (joined_of j) → At j.standing.items p s → HasKeyAt j.queues.items n s.key
key-there p n j s h at =
    let same : h.s ≡ standing_of s = At-one (map standing_of j.standing.items) p h.s (standing_of s) h.at (At-map standing_of j.standing.items p s at) in
    subst (λ (z : Standing). HasKeyAt j.queues.items n z.key) same (key-kept j.queues.items n h.s.key h.q h.in_it h.among)
