-- What is held of an end's queues and of its circuit's numbers, as updates leave the queues, and as
-- other messages go down.
use Rattle.std.proofs.Common.{◌≡◌, ℕ, zero, suc, ◌<◌, ◌⊎◌, inl, inr, Bool, true, false, cond, eq-eqb, ne_eqb, List, [], ◌∷◌, ◌++◌, length, Option, Some, None, refl, sym, ap, subst, ◌∙◌, append-nil, arith}
use Rattle.std.specs.Prelude.{drop, map, option_and_then, option_map, slice_get, slice_set, unwrap_or}
use Rattle.std.specs.List.{FoldsTo, cons_option}
use Rattle.std.proofs.lemmas.List.Elements.{filter_map-append}
use Rattle.ca_queue.specs.declared.entry.SubKey.{SubKey}
use Rattle.ca_queue.specs.Images.{image_if, images, queue_images}
use Rattle.ca_queue.specs.Keys.{is_among, same}
use Rattle.ca_queue.specs.Queue.{Queue, with_front_taken}
use Rattle.ca_queue.specs.Waiting.{after_take, entries_of, front, may_take, taken}
use Rattle.ca_queue.proofs.Images.{front_taken_images, taken_images}
use Rattle.ca_queue.proofs.Keys.{same_itself}
use Rattle.ca_queue.proofs.Subscribers.{first_taken}
use Rattle.ca_text.specs.Place.{At}
use Rattle.ca_text.proofs.Places.{some_is, At-append, At-last, At-map, At-mapped, At-one, At-parts, At-set, At-set-other}
use Rattle.ca_model.specs.History.{Cause, Reply, Told, Update}
use Rattle.ca_model.specs.Server.{ServerEnd, Subscription, key_of}
use Rattle.ca_model.specs.ServerSteps.{Leaves}
use Rattle.ca_model.specs.ServerSteps as stepped
use Rattle.ca_model.specs.Speech.{Stored}
use Rattle.ca_model.specs.Updates.{ShowsTo}
use Rattle.ca_model.specs.ServerEvents.{front_number, stamped}
use Rattle.ca_model.specs.World.{Joined, Standing}
use Rattle.ca_laws_parts.specs.InStep.{Numbered, number_in, value_in}
use Rattle.ca_laws_parts.specs.Rising.{Rising}
use Rattle.ca_laws_parts.proofs.Rising.{rising-other-taken, rising-taken}
use Rattle.ca_laws_parts.proofs.WritesLists.{beside-left, both-all, none_at}
use Rattle.ca_laws_parts.proofs.Midway.{set-here}
use Rattle.ca_laws_parts.proofs.WritesMoves.{same-or}
use Rattle.ca_laws_runs.specs.Holds.{Counts, Holds, Home, number_for, post_at, sent_numbers, stamp_of}
use Rattle.ca_laws_runs.specs.Holds as number
use Rattle.ca_laws_runs.proofs.Counting.{key-once, post-there, rising-below}

-- ---- numbers that were sent

pub sent-more : (place : ℕ) (down more : List Told) → sent_numbers place (down ++ more) ≡ sent_numbers place down ++ sent_numbers place more
sent-more place down more = filter_map-append (number_for place) down more

pub sent-own : (place m : ℕ) (t : Told) → t.place ≡ place → t.cause ≡ Update m → sent_numbers place (t ∷ []) ≡ m ∷ []
sent-own place m t there cause =
    ap (λ (b : Bool). cons_option (cond b (number.number_of t.cause) None) []) (eq-eqb t.place place there)
    ∙ ap (λ (w : Cause). cons_option (number.number_of w) []) cause

pub sent-other : (place : ℕ) (t : Told) → (t.place ≡ place → ⊥) → sent_numbers place (t ∷ []) ≡ []
sent-other place t other = ap (λ (b : Bool). cons_option (cond b (number.number_of t.cause) None) []) (ne_eqb t.place place other)

-- ---- a take

set-map : {A B : Type 0} (f : A → B) (xs : List A) (i : ℕ) (x : A) → slice_set (map f xs) i (f x) ≡ map f (slice_set xs i x)
set-map f [] i x = refl
set-map f (z ∷ xs) zero x = refl
set-map {A} {B} f (z ∷ xs) (suc i) x = ap (λ (l : List B). f z ∷ l) (set-map f xs i x)

front-taken : (on : Bool) (q : List (SubKey × Numbered)) (w : SubKey × Numbered) → taken on q ≡ Some w → front q ≡ Some w
front-taken on q w is = go (may_take on q) is
  where
    go : (b : Bool) → cond b (front q) None ≡ Some w → front q ≡ Some w
    go true e = e
    go false e = absurd cc

front-images : {F : Type 0} (f : Numbered → F) (q : List (SubKey × Numbered)) (w : SubKey × Numbered) → front q ≡ Some w → front (images f q) ≡ Some (w.0, f w.1)
front-images f [] w is = absurd cc
front-images f (u ∷ q) w is = ap (λ (z : SubKey × Numbered). Some (z.0, f z.1)) (some_is u w is)

from-image : (o : Option (SubKey × Numbered)) (key : SubKey) (v : Stored) → image_if value_in o ≡ Some (key, v) → (n : Numbered) × (o ≡ Some (key, n)) × (n.value ≡ v)
from-image None key v is = absurd cc
from-image (Some w) key v is =
    let e : (w.0, w.1.value) ≡ (key, v) = some_is (w.0, w.1.value) (key, v) is in
    (w.1, ap (λ (z : SubKey × Stored). Some (z.0, w.1)) e, ap (λ (z : SubKey × Stored). z.1) e)

not-nil : (n : Numbered) (ns : List Numbered) → n ∷ ns ≡ [] → ⊥
not-nil n ns e = cc

-- nothing of a key stays nothing
none-after : (k : SubKey) (on : Bool) (q : List (SubKey × Numbered)) → entries_of k q ≡ [] → entries_of k (after_take on q) ≡ []
none-after k on q none = go (may_take on q)
  where
    rest : (l : List (SubKey × Numbered)) → entries_of k l ≡ [] → entries_of k (drop 1 l) ≡ []
    rest [] e = refl
    rest (w ∷ l) e = by (same k w.0) e
      where
        by : (b : Bool) → cond b (w.1 ∷ entries_of k l) (entries_of k l) ≡ [] → entries_of k l ≡ []
        by true h = absurd (not-nil w.1 (entries_of k l) h)
        by false h = h

    go : (b : Bool) → entries_of k (cond b (drop 1 q) q) ≡ []
    go true = rest q none
    go false = none

abbrev one-stamped : stepped.Update → Joined → Joined
one-stamped u j =
    let item : ℕ × Cause = unwrap_or (front_number j.queues u.queue) (0, Reply) in
    let queues : List (Queue (ℕ × Cause)) = unwrap_or (option_map (λ (q : Queue (ℕ × Cause)). slice_set j.queues u.queue (with_front_taken q)) (slice_get j.queues u.queue)) j.queues in
    record j { queues = queues; lists = record j.lists { down = j.lists.down ++ record { message = u.message; place = item.0; cause = item.1 } ∷ [] } }

-- An update leaves: its number was in front, and it shows the post of that number.
holds-leaves : (posts : Subscription → ℕ → List Stored) (u : stepped.Update) (e mid : ServerEnd) (c : Joined) → Leaves e u mid → Holds posts e.subscriptions e.queues c → Holds posts mid.subscriptions mid.queues (one-stamped u c)
holds-leaves posts u e mid c l h =
    subst (λ (x : ServerEnd). Holds posts x.subscriptions x.queues (one-stamped u c)) (sym l.leaves)
    (subst (λ (d : Joined). Holds posts e.subscriptions (slice_set e.queues u.queue (with_front_taken l.q)) d) (sym circuit-is) whole)
  where
    b : (z : Queue Numbered) × At h.both u.queue z × (l.q ≡ queue_images value_in z)
    b = At-mapped (queue_images value_in) h.both u.queue l.q (subst (λ (qs : List (Queue Stored)). At qs u.queue l.q) h.values_are l.at)

    z : Queue Numbered
    z = b.0

    n : (n : Numbered) × (taken z.events_on z.waiting ≡ Some (key_of u.of, n)) × (n.value ≡ u.carries)
    n =
        let given : taken z.events_on (images value_in z.waiting) ≡ Some (key_of u.of, u.carries) = ap (λ (x : Queue Stored). taken x.events_on x.waiting) (sym b.2) ∙ l.taken_is in
        from-image (taken z.events_on z.waiting) (key_of u.of) u.carries (sym (taken_images value_in z.events_on z.waiting) ∙ given)

    pair : (st : Standing) × At c.standing l.stands.0 st × Counts posts c.lists.down h.both u.of st
    pair = beside-left (Counts posts c.lists.down h.both) e.subscriptions c.standing l.stands.0 u.of h.each l.stands.1

    st : Standing
    st = pair.0

    own : Counts posts c.lists.down h.both u.of st
    own = pair.2

    gone : List ℕ
    gone = sent_numbers st.place c.lists.down

    stamp : ℕ → Numbered
    stamp = stamp_of own.other (posts u.of st.place) st.place

    given : taken z.events_on z.waiting ≡ Some (st.key, n.0)
    given = n.1 ∙ ap (λ (k : SubKey). Some (k, n.0)) own.key

    member : is_among st.key z.subscriptions ≡ true
    member = decide (is_among st.key z.subscriptions) refl
      where
        decide : (x : Bool) → is_among st.key z.subscriptions ≡ x → is_among st.key z.subscriptions ≡ true
        decide true is = is
        decide false is = absurd (not-nil n.0 (entries_of st.key (after_take z.events_on z.waiting)) (sym (first_taken z.events_on st.key n.0 z.waiting (sym given)) ∙ h.tidy u.queue z st.key b.1 is))

    at_home : u.queue ≡ own.numbers.home
    at_home = own.numbers.elsewhere u.queue z b.1 member

    rising : Rising stamp st.key gone st.posts z
    rising =
        let same_queue : own.numbers.q ≡ z = At-one h.both own.numbers.home own.numbers.q z own.numbers.at (subst (λ (i : ℕ). At h.both i z) at_home b.1) in
        subst (λ (q : Queue Numbered). Rising stamp st.key gone st.posts q) same_queue own.numbers.rising

    t : (m : ℕ) × (n.0 ≡ stamp m) × Rising stamp st.key (gone ++ m ∷ []) st.posts (with_front_taken z)
    t = rising-taken stamp st.key gone st.posts n.0 z given rising

    m : ℕ
    m = t.0

    below : m < length (posts u.of st.place)
    below =
        let lt : m < st.posts = rising-below stamp st.key (gone ++ m ∷ []) st.posts (with_front_taken z) t.2 (length gone) m (At-append (gone ++ m ∷ []) (t.2).wait (length gone) m (At-last gone m)) in
        let is : st.posts ≡ length (posts u.of st.place) = own.counts in
        omega (arith, lt, is)

    message : Told
    message = record { message = u.message; place = st.place; cause = Update m }

    both : List (Queue Numbered)
    both = slice_set h.both u.queue (with_front_taken z)

    d : Joined
    d = record c { queues = slice_set c.queues u.queue (with_front_taken (queue_images number_in z)); lists = record c.lists { down = c.lists.down ++ message ∷ [] } }

    here : At c.queues u.queue (queue_images number_in z)
    here = subst (λ (qs : List (Queue (ℕ × Cause))). At qs u.queue (queue_images number_in z)) (sym h.numbers_are) (At-map (queue_images number_in) h.both u.queue z b.1)

    item-is : front_number c.queues u.queue ≡ Some (st.place, Update m)
    item-is =
        ap (λ (o : Option (Queue (ℕ × Cause))). option_map (λ (w : SubKey × (ℕ × Cause)). w.1) (option_and_then (λ (q : Queue (ℕ × Cause)). front q.waiting) o)) here
        ∙ ap (λ (o : Option (SubKey × (ℕ × Cause))). option_map (λ (w : SubKey × (ℕ × Cause)). w.1) o) (front-images number_in z.waiting (st.key, n.0) (front-taken z.events_on z.waiting (st.key, n.0) given))
        ∙ ap (λ (x : Numbered). Some (number_in x)) t.1

    circuit-is : one-stamped u c ≡ d
    circuit-is =
        ap (λ (o : Option (ℕ × Cause)). let x : Joined = record c { queues = (one-stamped u c).queues; lists = record c.lists { down = c.lists.down ++ record { message = u.message; place = (unwrap_or o (0, Reply)).0; cause = (unwrap_or o (0, Reply)).1 } ∷ [] } } in x) item-is
        ∙ ap (λ (o : Option (Queue (ℕ × Cause))). let x : Joined = record d { queues = unwrap_or (option_map (λ (q : Queue (ℕ × Cause)). slice_set c.queues u.queue (with_front_taken q)) o) c.queues } in x) here

    own-now : Counts posts d.lists.down both u.of st
    own-now = record {
      key = own.key;
      other = own.other;
      counts = own.counts;
      numbers = record {
        home = u.queue;
        q = with_front_taken z;
        at = set-here h.both u.queue z (with_front_taken z) b.1;
        has = member;
        rising = subst (λ (ns : List ℕ). Rising stamp st.key ns st.posts (with_front_taken z)) (sym (sent-more st.place c.lists.down (message ∷ []) ∙ ap (λ (ns : List ℕ). gone ++ ns) (sent-own st.place m message refl refl))) t.2;
        elsewhere = λ i x at has. elim (At-set h.both u.queue (with_front_taken z) i x at) [
          | inl this ↦ this.0
          | inr old ↦ own.numbers.elsewhere i x old.0 has ∙ sym at_home
        ];
      };
      shows = λ j a k at there cause. elim (At-parts c.lists.down (message ∷ []) j k at) [
        | inl old ↦ own.shows j a k old there cause
        | inr last ↦ new-shows last.0 a k last.2 cause
      ];
    }
      where
        same-number : (a : ℕ) → Update m ≡ Update a → m ≡ a
        same-number a e = cc

        new-shows : (i a : ℕ) (k : Told) → At (message ∷ []) i k → k.cause ≡ Update a → (v : Stored) × At (posts u.of st.place) a v × ShowsTo u.of.wanted v k.message
        new-shows zero a k at cause =
            let is : message ≡ k = some_is message k at in
            let number_is : m ≡ a = same-number a (ap (λ (x : Told). x.cause) is ∙ cause) in
            let v : Stored = post_at own.other (posts u.of st.place) m in (
              v,
              subst (λ (x : ℕ). At (posts u.of st.place) x v) number_is (post-there own.other (posts u.of st.place) m below),
              subst (λ (x : Told). ShowsTo u.of.wanted v x.message) is (subst (λ (x : Stored). ShowsTo u.of.wanted x u.message) (sym n.2 ∙ ap (λ (x : Numbered). x.value) t.1) l.shows),
            )
        new-shows (suc i) a k at cause = absurd (none_at i k at)

    other-now : (i : ℕ) (sub : Subscription) (s : Standing) → At c.standing i s → same st.key s.key ≡ false → Counts posts c.lists.down h.both sub s → Counts posts d.lists.down both sub s
    other-now i sub s at_s differs k =
        let apart : st.place ≡ s.place → ⊥ = λ places.
        (let one : l.stands.0 ≡ i = h.lone l.stands.0 i st s pair.1 at_s places in
        let is : st ≡ s = At-one c.standing i st s (subst (λ (x : ℕ). At c.standing x st) one pair.1) at_s in
        let f : true ≡ false = sym (same_itself st.key) ∙ ap (λ (x : Standing). same st.key x.key) is ∙ differs in cc) in
        let sent : sent_numbers s.place (c.lists.down ++ message ∷ []) ≡ sent_numbers s.place c.lists.down =
        sent-more s.place c.lists.down (message ∷ []) ∙ ap (λ (ns : List ℕ). sent_numbers s.place c.lists.down ++ ns) (sent-other s.place message apart) ∙ append-nil (sent_numbers s.place c.lists.down) in
        record {
          key = k.key;
          other = k.other;
          counts = k.counts;
          numbers = subst (λ (ns : List ℕ). Home both s.key (stamp_of k.other (posts sub s.place) s.place) ns s.posts) (sym sent) (other-home (same-or k.numbers.home u.queue));
          shows = λ j a x at there cause. elim (At-parts c.lists.down (message ∷ []) j x at) [
            | inl old ↦ k.shows j a x old there cause
            | inr last ↦ absurd (not-new last.0 x last.2 there apart)
          ];
        }
      where
        not-new : (y : ℕ) (x : Told) → At (message ∷ []) y x → x.place ≡ s.place → (st.place ≡ s.place → ⊥) → ⊥
        not-new zero x at there apart = apart (ap (λ (v : Told). v.place) (some_is message x at) ∙ there)
        not-new (suc y) x at there apart = none_at y x at

        elsewhere-now : (y : ℕ) (x : Queue Numbered) → At both y x → is_among s.key x.subscriptions ≡ true → y ≡ k.numbers.home
        elsewhere-now y x at has = elim (At-set h.both u.queue (with_front_taken z) y x at) [
          | inl this ↦ k.numbers.elsewhere y z (subst (λ (v : ℕ). At h.both v z) (sym this.0) b.1) (ap (λ (v : Queue Numbered). is_among s.key v.subscriptions) (sym this.1) ∙ has)
          | inr old ↦ k.numbers.elsewhere y x old.0 has
        ]

        other-home : (k.numbers.home ≡ u.queue) ⊎ (k.numbers.home ≡ u.queue → ⊥) → Home both s.key (stamp_of k.other (posts sub s.place) s.place) (sent_numbers s.place c.lists.down) s.posts
        other-home (inl is) =
            let queue : k.numbers.q ≡ z = At-one h.both u.queue k.numbers.q z (subst (λ (v : ℕ). At h.both v k.numbers.q) is k.numbers.at) b.1 in
            record {
              home = k.numbers.home;
              q = with_front_taken z;
              at = subst (λ (v : ℕ). At both v (with_front_taken z)) (sym is) (set-here h.both u.queue z (with_front_taken z) b.1);
              has = ap (λ (v : Queue Numbered). is_among s.key v.subscriptions) (sym queue) ∙ k.numbers.has;
              rising = rising-other-taken (stamp_of k.other (posts sub s.place) s.place) s.key (sent_numbers s.place c.lists.down) s.posts st.key n.0 z given differs
                  (subst (λ (v : Queue Numbered). Rising (stamp_of k.other (posts sub s.place) s.place) s.key (sent_numbers s.place c.lists.down) s.posts v) queue k.numbers.rising);
              elsewhere = elsewhere-now;
            }
        other-home (inr other) = record {
          home = k.numbers.home;
          q = k.numbers.q;
          at = At-set-other h.both u.queue k.numbers.home k.numbers.q (with_front_taken z) k.numbers.at other;
          has = k.numbers.has;
          rising = k.numbers.rising;
          elsewhere = elsewhere-now;
        }

    each-now : (i : ℕ) (sub : Subscription) (s : Standing) → At e.subscriptions i sub → At c.standing i s → Counts posts c.lists.down h.both sub s → Counts posts d.lists.down both sub s
    each-now i sub s at_sub at_s k = go (same st.key s.key) refl
      where
        go : (x : Bool) → same st.key s.key ≡ x → Counts posts d.lists.down both sub s
        go true is =
            let one : l.stands.0 ≡ i = key-once c.standing l.stands.0 i st s h.apart pair.1 at_s is in
            let s_is : st ≡ s = At-one c.standing i st s (subst (λ (x : ℕ). At c.standing x st) one pair.1) at_s in
            let sub_is : u.of ≡ sub = At-one e.subscriptions i u.of sub (subst (λ (x : ℕ). At e.subscriptions x u.of) one l.stands.1) at_sub in
            subst (λ (x : Standing). Counts posts d.lists.down both sub x) s_is (subst (λ (x : Subscription). Counts posts d.lists.down both x st) sub_is own-now)
        go false is = other-now i sub s at_s is k

    one-early : (i : ℕ) (k : Told) → At (message ∷ []) i k → k.place < length c.lists.handled
    one-early zero k at = subst (λ (n : ℕ). n < length c.lists.handled) (ap (λ (v : Told). v.place) (some_is message k at)) (h.stood l.stands.0 st pair.1)
    one-early (suc i) k at = absurd (none_at i k at)

    whole : Holds posts e.subscriptions (slice_set e.queues u.queue (with_front_taken l.q)) d
    whole = record {
      both = both;
      values_are = ap (λ (qs : List (Queue Stored)). slice_set qs u.queue (with_front_taken l.q)) h.values_are
          ∙ ap (λ (x : Queue Stored). slice_set (map (queue_images value_in) h.both) u.queue x) (ap (λ (x : Queue Stored). with_front_taken x) b.2 ∙ front_taken_images value_in z)
          ∙ set-map (queue_images value_in) h.both u.queue (with_front_taken z);
      numbers_are = ap (λ (qs : List (Queue (ℕ × Cause))). slice_set qs u.queue (with_front_taken (queue_images number_in z))) h.numbers_are
          ∙ ap (λ (x : Queue (ℕ × Cause)). slice_set (map (queue_images number_in) h.both) u.queue x) (front_taken_images number_in z)
          ∙ set-map (queue_images number_in) h.both u.queue (with_front_taken z);
      each = both-all (Counts posts c.lists.down h.both) (Counts posts d.lists.down both) e.subscriptions c.standing h.each each-now;
      apart = h.apart;
      lone = h.lone;
      seats = λ i x k at has. elim (At-set h.both u.queue (with_front_taken z) i x at) [
        | inl this ↦ h.seats u.queue z k b.1 (ap (λ (v : Queue Numbered). is_among k v.subscriptions) (sym this.1) ∙ has)
        | inr old ↦ h.seats i x k old.0 has
      ];
      tidy = λ i x k at none. elim (At-set h.both u.queue (with_front_taken z) i x at) [
        | inl this ↦
            ap (λ (v : Queue Numbered). entries_of k v.waiting) this.1
            ∙ none-after k z.events_on z.waiting (h.tidy u.queue z k b.1 (ap (λ (v : Queue Numbered). is_among k v.subscriptions) (sym this.1) ∙ none))
        | inr old ↦ h.tidy i x k old.0 none
      ];
      stood = h.stood;
      early = λ j a k at cause. elim (At-parts c.lists.down (message ∷ []) j k at) [
        | inl old ↦ h.early j a k old cause
        | inr last ↦ one-early last.0 k last.2
      ];
    }

-- Updates leave the queues.
pub holds-pumped : (posts : Subscription → ℕ → List Stored) (us : List stepped.Update) (e after : ServerEnd) (c : Joined) → FoldsTo Leaves e us after → Holds posts e.subscriptions e.queues c → Holds posts after.subscriptions after.queues (stamped us c)
holds-pumped posts [] e after c is h = subst (λ (x : ServerEnd). Holds posts x.subscriptions x.queues c) is h
holds-pumped posts (u ∷ us) e after c (mid, one, rest) h = holds-pumped posts us mid after (one-stamped u c) rest (holds-leaves posts u e mid c one h)
