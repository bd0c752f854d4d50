-- What is held of an end's queues and of its circuit's numbers, as a subscription begins.
use Rattle.std.proofs.Common.{◌≡◌, ℕ, zero, suc, ◌<◌, ◌≤◌, ◌⊎◌, inl, inr, Bool, true, false, cond, ◌||◌, List, [], ◌∷◌, ◌++◌, length, le-ltb, lt-ltb, refl, sym, ap, subst, ◌∙◌, arith}
use Rattle.std.specs.Prelude.{map, slice_set}
use Rattle.std.proofs.lemmas.List.{map-append}
use Rattle.ca_queue.specs.declared.entry.SubKey.{SubKey}
use Rattle.ca_queue.specs.Images.{queue_images}
use Rattle.ca_queue.specs.Keys.{AreApart, is_among, same}
use Rattle.ca_queue.specs.Queue.{Queue, added, posted}
use Rattle.ca_queue.specs.Waiting.{entries_of}
use Rattle.ca_queue.proofs.Images.{posted_images}
use Rattle.ca_queue.proofs.Keys.{among_push, apart_push, other_sym, same_is, same_itself}
use Rattle.ca_queue.proofs.Subscribers.{others_posted}
use Rattle.ca_text.specs.Limits.{queue_subscriptions}
use Rattle.ca_text.specs.Place.{At}
use Rattle.ca_text.proofs.Places.{some_is, At-map, At-mapped, At-one, At-set, At-set-other, At-snoc}
use Rattle.ca_model.specs.History.{Cause, Told, Update}
use Rattle.ca_model.specs.Server.{ServerEnd, Subscription, key_of}
use Rattle.ca_model.specs.ServerSteps.{TakesIn}
use Rattle.ca_model.specs.Speech.{Stored}
use Rattle.ca_model.specs.ServerEvents.{number_taken}
use Rattle.ca_model.specs.World.{Joined, Standing}
use Rattle.ca_laws_parts.specs.InStep.{Numbered, keys_standing, number_in, value_in}
use Rattle.ca_laws_parts.specs.Rising.{Rising}
use Rattle.ca_laws_parts.proofs.Rising.{rising-added, rising-begins, rising-other-post}
use Rattle.ca_laws_parts.proofs.WritesLists.{both-all, both-snoc, none_at}
use Rattle.ca_laws_parts.proofs.Midway.{set-here}
use Rattle.ca_laws_parts.proofs.WritesMoves.{same-or}
use Rattle.ca_laws_runs.specs.Holds.{Counts, Holds, Home, sent_numbers, stamp_of}
use Rattle.ca_laws_runs.proofs.Counting.{key-among}

-- it is taken by the first queue with room, in both
taken-values : (key : SubKey) (entry : Numbered) (both : List (Queue Numbered)) (i : ℕ) (z : Queue Numbered) → At both i z
    → slice_set (map (queue_images value_in) both) i (posted key entry.value (added key (queue_images value_in z))) ≡ map (queue_images value_in) (slice_set both i (posted key entry (added key z)))
taken-values key entry [] i z at = absurd (none_at i z at)
taken-values key entry (x ∷ xs) zero z at = ap (λ (q : Queue Stored). q ∷ map (queue_images value_in) xs) (posted_images value_in key entry (added key z))
taken-values key entry (x ∷ xs) (suc i) z at = ap (λ (l : List (Queue Stored)). queue_images value_in x ∷ l) (taken-values key entry xs i z at)

taken-numbers : (key : SubKey) (entry : Numbered) (both : List (Queue Numbered)) (i : ℕ) (z : Queue Numbered) → At both i z → length z.subscriptions < queue_subscriptions
    → ((k : ℕ) (r : Queue Numbered) → k < i → At both k r → queue_subscriptions ≤ length r.subscriptions)
    → number_taken key (number_in entry) (map (queue_images number_in) both) ≡ map (queue_images number_in) (slice_set both i (posted key entry (added key z)))
taken-numbers key entry [] i z at room first = absurd (none_at i z at)
taken-numbers key entry (x ∷ xs) zero z at room first =
    let is : x ≡ z = some_is x z at in
    let fits : length x.subscriptions < queue_subscriptions = subst (λ (q : Queue Numbered). length q.subscriptions < queue_subscriptions) (sym is) room in
    ap (λ (b : Bool). cond b (posted key (number_in entry) (added key (queue_images number_in x)) ∷ map (queue_images number_in) xs) (queue_images number_in x ∷ number_taken key (number_in entry) (map (queue_images number_in) xs))) (lt-ltb (length x.subscriptions) queue_subscriptions fits)
    ∙ ap (λ (q : Queue (ℕ × Cause)). q ∷ map (queue_images number_in) xs) (posted_images number_in key entry (added key x))
    ∙ ap (λ (q : Queue Numbered). queue_images number_in (posted key entry (added key q)) ∷ map (queue_images number_in) xs) is
taken-numbers key entry (x ∷ xs) (suc i) z at room first =
    let full : queue_subscriptions ≤ length x.subscriptions = first 0 x (omega arith) refl in
    ap (λ (b : Bool). cond b (posted key (number_in entry) (added key (queue_images number_in x)) ∷ map (queue_images number_in) xs) (queue_images number_in x ∷ number_taken key (number_in entry) (map (queue_images number_in) xs))) (le-ltb (length x.subscriptions) queue_subscriptions full)
    ∙ ap (λ (l : List (Queue (ℕ × Cause))). queue_images number_in x ∷ l) (taken-numbers key entry xs i z at room (λ k r lt there. first (suc k) r (omega (arith, lt)) there))

or-left : (a b : Bool) → a || b ≡ false → a ≡ false
or-left true b e = absurd cc
or-left false b e = refl

or-right : (a b : Bool) → a || b ≡ false → b ≡ false
or-right true b e = absurd cc
or-right false b e = e

or-false : (a b : Bool) → b ≡ false → a || b ≡ a
or-false true b e = refl
or-false false b e = e

or-true : (a b : Bool) → b ≡ true → a || b ≡ true
or-true true b e = refl
or-true false b e = e

or-first : (a b : Bool) → a ≡ true → a || b ≡ true
or-first true b e = refl
or-first false b e = absurd cc

clash : (b : Bool) → b ≡ true → b ≡ false → ⊥
clash true e f = cc
clash false e f = cc

-- A subscription begins with the value that its record has: the first post that it sees.
pub holds-added : (posts : Subscription → ℕ → List Stored) (s : Subscription) (v : Stored) (place : ℕ) (e new : ServerEnd) (c : Joined) → TakesIn s v e new → is_among (key_of s) (keys_standing c) ≡ false → place < length c.lists.handled
    → ((i : ℕ) (st : Standing) → At c.standing i st → st.place < place) → ((j a : ℕ) (t : Told) → At c.lists.down j t → t.cause ≡ Update a → t.place ≡ place → ⊥) → sent_numbers place c.lists.down ≡ [] → posts s place ≡ v ∷ []
    → Holds posts e.subscriptions e.queues c
    → Holds posts new.subscriptions new.queues (record c { standing = c.standing ++ record { key = key_of s; place = place; posts = 1 } ∷ []; queues = number_taken (key_of s) (place, Update 0) c.queues })
holds-added posts s v place e new c takes fresh within later unsent none first h =
    subst (λ (x : ServerEnd). Holds posts x.subscriptions x.queues d) (sym takes.leaves) whole
  where
    key : SubKey
    key = key_of s

    st : Standing
    st = record { key = key; place = place; posts = 1 }

    d : Joined
    d = record c { standing = c.standing ++ st ∷ []; queues = number_taken key (place, Update 0) c.queues }

    entry : Numbered
    entry = record { value = v; place = place; number = 0 }

    b : (z : Queue Numbered) × At h.both takes.place z × (takes.q ≡ queue_images value_in z)
    b = At-mapped (queue_images value_in) h.both takes.place takes.q (subst (λ (qs : List (Queue Stored)). At qs takes.place takes.q) h.values_are takes.at)

    z : Queue Numbered
    z = b.0

    made : Queue Numbered
    made = posted key entry (added key z)

    both : List (Queue Numbered)
    both = slice_set h.both takes.place made

    keys_are : keys_standing d ≡ keys_standing c ++ key ∷ []
    keys_are = map-append (λ (x : Standing). x.key) c.standing (st ∷ [])

    room : length z.subscriptions < queue_subscriptions
    room = subst (λ (q : Queue Stored). length q.subscriptions < queue_subscriptions) b.2 takes.room

    fulls : (k : ℕ) (r : Queue Numbered) → k < takes.place → At h.both k r → queue_subscriptions ≤ length r.subscriptions
    fulls k r lt at = takes.first k (queue_images value_in r) lt (subst (λ (qs : List (Queue Stored)). At qs k (queue_images value_in r)) (sym h.values_are) (mapped-at k r at))
      where
        mapped-at : (k : ℕ) (r : Queue Numbered) → At h.both k r → At (map (queue_images value_in) h.both) k (queue_images value_in r)
        mapped-at k r at = At-map (queue_images value_in) h.both k r at

    not-there : (i : ℕ) (x : Queue Numbered) → At h.both i x → is_among key x.subscriptions ≡ false
    not-there i x at = go (is_among key x.subscriptions) refl
      where
        go : (y : Bool) → is_among key x.subscriptions ≡ y → is_among key x.subscriptions ≡ false
        go true is = absurd (clash (is_among key (keys_standing c)) (h.seats i x key at is) fresh)
        go false is = is

    -- another key is where it was
    members : (k : SubKey) → same k key ≡ false → is_among k made.subscriptions ≡ is_among k z.subscriptions
    members k other = among_push k key z.subscriptions ∙ or-false (is_among k z.subscriptions) (same k key) other

    own-now : Counts posts c.lists.down both s st
    own-now = record {
      key = refl;
      other = v;
      counts = ap (λ (ps : List Stored). length ps) (sym first);
      numbers = subst (λ (ns : List ℕ). Home both key (stamp_of v (posts s place) place) ns 1) (sym none)
          (subst (λ (ps : List Stored). Home both key (stamp_of v ps place) [] 1) (sym first) (record {
            home = takes.place;
            q = made;
            at = set-here h.both takes.place z made b.1;
            has = among_push key key z.subscriptions ∙ or-true (is_among key z.subscriptions) (same key key) (same_itself key);
            rising = rising-begins (stamp_of v (v ∷ []) place) key z (h.tidy takes.place z key b.1 (not-there takes.place z b.1));
            elsewhere = λ i x at has. elim (At-set h.both takes.place made i x at) [
              | inl this ↦ this.0
              | inr old ↦ absurd (clash (is_among key x.subscriptions) has (not-there i x old.0))
            ];
          }));
      shows = λ j a t at there cause. absurd (unsent j a t at cause there);
    }

    old-now : (i : ℕ) (sub : Subscription) (x : Standing) → At c.standing i x → Counts posts c.lists.down h.both sub x → Counts posts c.lists.down both sub x
    old-now i sub x at n = record { key = n.key; other = n.other; counts = n.counts; numbers = home (same-or n.numbers.home takes.place); shows = n.shows }
      where
        differs : same x.key key ≡ false
        differs = go (same x.key key) refl
          where
            go : (y : Bool) → same x.key key ≡ y → same x.key key ≡ false
            go true is = absurd (clash (is_among key (keys_standing c)) (subst (λ (k : SubKey). is_among k (keys_standing c) ≡ true) (same_is x.key key is) (key-among c.standing i x at)) fresh)
            go false is = is

        stamp : ℕ → Numbered
        stamp = stamp_of n.other (posts sub x.place) x.place

        sent : List ℕ
        sent = sent_numbers x.place c.lists.down

        elsewhere-now : (y : ℕ) (q : Queue Numbered) → At both y q → is_among x.key q.subscriptions ≡ true → y ≡ n.numbers.home
        elsewhere-now y q there has = elim (At-set h.both takes.place made y q there) [
          | inl this ↦ n.numbers.elsewhere y z (subst (λ (k : ℕ). At h.both k z) (sym this.0) b.1) (sym (members x.key differs) ∙ ap (λ (r : Queue Numbered). is_among x.key r.subscriptions) (sym this.1) ∙ has)
          | inr old ↦ n.numbers.elsewhere y q old.0 has
        ]

        home : (n.numbers.home ≡ takes.place) ⊎ (n.numbers.home ≡ takes.place → ⊥) → Home both x.key stamp sent x.posts
        home (inl is) =
            let queue : n.numbers.q ≡ z = At-one h.both takes.place n.numbers.q z (subst (λ (k : ℕ). At h.both k n.numbers.q) is n.numbers.at) b.1 in
            record {
              home = n.numbers.home;
              q = made;
              at = subst (λ (k : ℕ). At both k made) (sym is) (set-here h.both takes.place z made b.1);
              has = members x.key differs ∙ ap (λ (r : Queue Numbered). is_among x.key r.subscriptions) (sym queue) ∙ n.numbers.has;
              rising = rising-other-post stamp x.key sent x.posts key entry (added key z) (other_sym x.key key differs)
                  (rising-added stamp x.key sent x.posts key z (subst (λ (r : Queue Numbered). Rising stamp x.key sent x.posts r) queue n.numbers.rising));
              elsewhere = elsewhere-now;
            }
        home (inr other) = record {
          home = n.numbers.home;
          q = n.numbers.q;
          at = At-set-other h.both takes.place n.numbers.home n.numbers.q made n.numbers.at other;
          has = n.numbers.has;
          rising = n.numbers.rising;
          elsewhere = elsewhere-now;
        }

    same-suc : (i j : ℕ) → i ≡ length c.standing → j ≡ length c.standing → i ≡ j
    same-suc i j p q = p ∙ sym q

    whole : Holds posts (e.subscriptions ++ s ∷ []) (slice_set e.queues takes.place (posted key v (added key takes.q))) d
    whole = record {
      both = both;
      values_are = ap (λ (qs : List (Queue Stored)). slice_set qs takes.place (posted key v (added key takes.q))) h.values_are
          ∙ ap (λ (q : Queue Stored). slice_set (map (queue_images value_in) h.both) takes.place (posted key v (added key q))) b.2
          ∙ taken-values key entry h.both takes.place z b.1;
      numbers_are = ap (λ (qs : List (Queue (ℕ × Cause))). number_taken key (place, Update 0) qs) h.numbers_are ∙ taken-numbers key entry h.both takes.place z b.1 room fulls;
      each = both-snoc (Counts posts c.lists.down both) e.subscriptions c.standing s st
          (both-all (Counts posts c.lists.down h.both) (Counts posts c.lists.down both) e.subscriptions c.standing h.each (λ i sub x p q n. old-now i sub x q n)) own-now;
      apart = subst (λ (l : List SubKey). AreApart l) (sym keys_are) (apart_push key (keys_standing c) h.apart fresh);
      lone = λ i j x y p q is. elim (At-snoc c.standing st i x p) [
        | inl old ↦ elim (At-snoc c.standing st j y q) [
          | inl was ↦ h.lone i j x y old was is
          | inr last ↦ absurd (let lt : x.place < place = later i x old in let e : y.place ≡ place = ap (λ (u : Standing). u.place) last.1 in omega (arith, lt, e, is))
        ]
        | inr last ↦ elim (At-snoc c.standing st j y q) [
          | inl was ↦ absurd (let lt : y.place < place = later j y was in let e : x.place ≡ place = ap (λ (u : Standing). u.place) last.1 in omega (arith, lt, e, is))
          | inr also ↦ same-suc i j last.0 also.0
        ]
      ];
      seats = λ i x k at has. subst (λ (l : List SubKey). is_among k l ≡ true) (sym keys_are) (among_push k key (keys_standing c) ∙ seat i x k at has);
      tidy = λ i x k at empty. elim (At-set h.both takes.place made i x at) [
        | inl this ↦
            let parts : is_among k z.subscriptions || same k key ≡ false = sym (among_push k key z.subscriptions) ∙ ap (λ (r : Queue Numbered). is_among k r.subscriptions) (sym this.1) ∙ empty in
            ap (λ (r : Queue Numbered). entries_of k r.waiting) this.1
            ∙ others_posted z.events_on key k entry z.waiting (other_sym k key (or-right (is_among k z.subscriptions) (same k key) parts))
            ∙ h.tidy takes.place z k b.1 (or-left (is_among k z.subscriptions) (same k key) parts)
        | inr old ↦ h.tidy i x k old.0 empty
      ];
      stood = λ i x at. elim (At-snoc c.standing st i x at) [
        | inl old ↦ h.stood i x old
        | inr last ↦ subst (λ (u : Standing). u.place < length c.lists.handled) (sym last.1) within
      ];
      early = h.early;
    }
      where
        seat : (i : ℕ) (x : Queue Numbered) (k : SubKey) → At both i x → is_among k x.subscriptions ≡ true → is_among k (keys_standing c) || same k key ≡ true
        seat i x k at has = elim (At-set h.both takes.place made i x at) [
          | inl this ↦ go (same k key) refl (sym (among_push k key z.subscriptions) ∙ ap (λ (r : Queue Numbered). is_among k r.subscriptions) (sym this.1) ∙ has)
          | inr old ↦ or-first (is_among k (keys_standing c)) (same k key) (h.seats i x k old.0 has)
        ]
          where
            left : (a y : Bool) → y ≡ false → a || y ≡ true → a ≡ true
            left true y e f = refl
            left false y e f = absurd (clash y f e)

            go : (y : Bool) → same k key ≡ y → is_among k z.subscriptions || same k key ≡ true → is_among k (keys_standing c) || same k key ≡ true
            go true is there = or-true (is_among k (keys_standing c)) (same k key) is
            go false is there = or-first (is_among k (keys_standing c)) (same k key) (h.seats takes.place z k b.1 (left (is_among k z.subscriptions) (same k key) is there))
