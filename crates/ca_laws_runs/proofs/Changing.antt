-- What is held of an end's queues and of its circuit's numbers, as subscriptions
-- end, begin and rest.
use Rattle.std.proofs.Common.{◌≡◌, ℕ, zero, suc, ◌<◌, ◌≤◌, Bool, true, false, cond, not, ◌||◌, List, [], ◌∷◌, length, refl, sym, ap, subst, ◌∙◌, arith}
use Rattle.std.specs.Prelude.{filter, map}
use Rattle.std.specs.List.{fold}
use Rattle.ca_queue.specs.declared.entry.SubKey.{SubKey}
use Rattle.ca_queue.specs.Circuit.{queue_without, without_each}
use Rattle.ca_queue.specs.Images.{queue_images}
use Rattle.ca_queue.specs.Keys.{AreApart, is_among, same}
use Rattle.ca_queue.specs.Queue.{Queue, cancelled, switched}
use Rattle.ca_queue.specs.Waiting.{after_cancel, entries_of}
use Rattle.ca_queue.proofs.Images.{cancelled_images}
use Rattle.ca_queue.proofs.Keys.{among_without, none_left, other_sym, same_is}
use Rattle.ca_queue.proofs.Subscribers.{entries_cancelled, others_cancelled}
use Rattle.ca_text.specs.Place.{At}
use Rattle.ca_text.proofs.Places.{some_is, At-mapped}
use Rattle.ca_model.specs.History.{Cause, Told, Update}
use Rattle.ca_model.specs.Server.{Subscription, key_of}
use Rattle.ca_model.specs.Speech.{Stored}
use Rattle.ca_model.specs.ServerEvents.{without_standing}
use Rattle.ca_model.specs.World.{Joined, Standing}
use Rattle.ca_laws_parts.specs.InStep.{Numbered, keys_standing, number_in, value_in}
use Rattle.ca_laws_parts.specs.Rising.{Rising}
use Rattle.ca_laws_parts.proofs.Rising.{rising-other-cancelled}
use Rattle.ca_laws_parts.specs.Both.{Both}
use Rattle.ca_laws_parts.proofs.WritesLists.{In-kept, both-all, both-filter, none_at}
use Rattle.ca_laws_runs.specs.Holds.{Counts, Holds, Home, sent_numbers, stamp_of}
use Rattle.ca_laws_runs.proofs.Counting.{home-map}

-- ---- the same subscriptions, by the same posts

pub holds-like : (posts more : Subscription → ℕ → List Stored) (subs : List Subscription) (values : List (Queue Stored)) (c d : Joined) → length c.lists.handled ≤ length d.lists.handled → d.standing ≡ c.standing → d.queues ≡ c.queues
    → ((place : ℕ) → sent_numbers place d.lists.down ≡ sent_numbers place c.lists.down) → ((j a : ℕ) (t : Told) → At d.lists.down j t → t.cause ≡ Update a → (i : ℕ) × At c.lists.down i t)
    → ((i : ℕ) (sub : Subscription) (st : Standing) → At subs i sub → At c.standing i st → more sub st.place ≡ posts sub st.place) → Holds posts subs values c → Holds more subs values d
holds-like posts more subs values c d longer standing queues sent back alike h = record {
  both = h.both;
  values_are = h.values_are;
  numbers_are = queues ∙ h.numbers_are;
  each = subst (λ (l : List Standing). Both (Counts more d.lists.down h.both) subs l) (sym standing) (both-all (Counts posts c.lists.down h.both) (Counts more d.lists.down h.both) subs c.standing h.each one);
  apart = subst (λ (l : List Standing). AreApart (map (λ (x : Standing). x.key) l)) (sym standing) h.apart;
  lone = λ i j s t p q. h.lone i j s t (subst (λ (l : List Standing). At l i s) standing p) (subst (λ (l : List Standing). At l j t) standing q);
  seats = λ i x k at has. subst (λ (l : List Standing). is_among k (map (λ (y : Standing). y.key) l) ≡ true) (sym standing) (h.seats i x k at has);
  tidy = h.tidy;
  stood = λ i st at. (let lt : st.place < length c.lists.handled = h.stood i st (subst (λ (l : List Standing). At l i st) standing at) in omega (arith, lt, longer));
  early = λ j a t at cause. (let b = back j a t at cause in let lt : t.place < length c.lists.handled = h.early b.0 a t b.1 cause in omega (arith, lt, longer));
}
  where
    one : (i : ℕ) (sub : Subscription) (st : Standing) → At subs i sub → At c.standing i st → Counts posts c.lists.down h.both sub st → Counts more d.lists.down h.both sub st
    one i sub st at_sub at_st n =
        let now : more sub st.place ≡ posts sub st.place = alike i sub st at_sub at_st in
        record {
          key = n.key;
          other = n.other;
          counts = n.counts ∙ ap (λ (ps : List Stored). length ps) (sym now);
          numbers = subst (λ (ns : List ℕ). Home h.both st.key (stamp_of n.other (more sub st.place) st.place) ns st.posts) (sym (sent st.place))
              (subst (λ (ps : List Stored). Home h.both st.key (stamp_of n.other ps st.place) (sent_numbers st.place c.lists.down) st.posts) (sym now) n.numbers);
          shows = λ j a t at there cause.
              let i2 = back j a t at cause in
              let s = n.shows i2.0 a t i2.1 there cause in
              (s.0, subst (λ (ps : List Stored). At ps a s.0) (sym now) s.1, s.2);
        }

-- ---- what is left without some keys

abbrev Left : {E : Type 0} → (SubKey → Bool) → List SubKey → Queue E → Queue E
Left {E} gone ks r = fold (λ (r : Queue E) (k : SubKey). cond (gone k) (cancelled k r) r) r ks

left-images : {F : Type 0} (f : Numbered → F) (gone : SubKey → Bool) (keys : List SubKey) (q : Queue Numbered) → Left gone keys (queue_images f q) ≡ queue_images f (Left gone keys q)
left-images f gone [] q = refl
left-images {F} f gone (k ∷ keys) q =
    ap (λ (r : Queue F). Left gone keys r) (go (gone k)) ∙ left-images f gone keys (cond (gone k) (cancelled k q) q)
  where
    go : (b : Bool) → cond b (cancelled k (queue_images f q)) (queue_images f q) ≡ queue_images f (cond b (cancelled k q) q)
    go true = cancelled_images f k q
    go false = refl

each-left : {F : Type 0} (f : Numbered → F) (gone : SubKey → Bool) (qs : List (Queue Numbered)) → without_each gone (map (queue_images f) qs) ≡ map (queue_images f) (without_each gone qs)
each-left f gone [] = refl
each-left {F} f gone (q ∷ qs) =
    ap (λ (r : Queue F). r ∷ without_each gone (map (queue_images f) qs)) (left-images f gone q.subscriptions q)
    ∙ ap (λ (l : List (Queue F)). queue_images f (queue_without gone q) ∷ l) (each-left f gone qs)

differs : (gone : SubKey → Bool) (k x : SubKey) → gone x ≡ false → gone k ≡ true → same k x ≡ false
differs gone k x stays out = go (same k x) refl
  where
    go : (b : Bool) → same k x ≡ b → same k x ≡ false
    go true is = absurd (let f : true ≡ false = sym out ∙ ap gone (same_is k x is) ∙ stays in cc)
    go false is = is

left-among : (gone : SubKey → Bool) (ks : List SubKey) (r : Queue Numbered) (x : SubKey) → gone x ≡ false → is_among x (Left gone ks r).subscriptions ≡ is_among x r.subscriptions
left-among gone [] r x stays = refl
left-among gone (k ∷ ks) r x stays = go (gone k) refl (λ q. left-among gone ks q x stays)
  where
    go : (b : Bool) → gone k ≡ b → ((q : Queue Numbered) → is_among x (Left gone ks q).subscriptions ≡ is_among x q.subscriptions) → is_among x (Left gone ks (cond b (cancelled k r) r)).subscriptions ≡ is_among x r.subscriptions
    go true is more = more (cancelled k r) ∙ among_without x k r.subscriptions (differs gone k x stays is)
    go false is more = more r

left-rising : (gone : SubKey → Bool) (ks : List SubKey) (stamp : ℕ → Numbered) (x : SubKey) (g : List ℕ) (n : ℕ) (r : Queue Numbered) → gone x ≡ false → Rising stamp x g n r → Rising stamp x g n (Left gone ks r)
left-rising gone [] stamp x g n r stays h = h
left-rising gone (k ∷ ks) stamp x g n r stays h = go (gone k) refl (λ q y. left-rising gone ks stamp x g n q stays y)
  where
    go : (b : Bool) → gone k ≡ b → ((q : Queue Numbered) → Rising stamp x g n q → Rising stamp x g n (Left gone ks q)) → Rising stamp x g n (Left gone ks (cond b (cancelled k r) r))
    go true is more = more (cancelled k r) (rising-other-cancelled stamp x g n k r (differs gone k x stays is) h)
    go false is more = more r h

cancel-none : (k x : SubKey) (q : Queue Numbered) → entries_of x q.waiting ≡ [] → entries_of x (cancelled k q).waiting ≡ []
cancel-none k x q none = go (same k x) refl
  where
    go : (b : Bool) → same k x ≡ b → entries_of x (after_cancel k q.waiting) ≡ []
    go true is = subst (λ (z : SubKey). entries_of z (after_cancel k q.waiting) ≡ []) (same_is k x is) (entries_cancelled k q.waiting)
    go false is = others_cancelled k x q.waiting is ∙ none

left-none : (gone : SubKey → Bool) (ks : List SubKey) (x : SubKey) (r : Queue Numbered) → entries_of x r.waiting ≡ [] → entries_of x (Left gone ks r).waiting ≡ []
left-none gone [] x r none = none
left-none gone (k ∷ ks) x r none = go (gone k) (λ q y. left-none gone ks x q y)
  where
    go : (b : Bool) → ((q : Queue Numbered) → entries_of x q.waiting ≡ [] → entries_of x (Left gone ks q).waiting ≡ []) → entries_of x (Left gone ks (cond b (cancelled k r) r)).waiting ≡ []
    go true more = more (cancelled k r) (cancel-none k x r none)
    go false more = more r none

fewer-among : (x k : SubKey) (keys : List SubKey) → is_among x keys ≡ false → is_among x (filter (λ (s : SubKey). not (same k s)) keys) ≡ false
fewer-among x k keys none = go (same k x) refl
  where
    go : (b : Bool) → same k x ≡ b → is_among x (filter (λ (s : SubKey). not (same k s)) keys) ≡ false
    go true is = subst (λ (z : SubKey). is_among z (filter (λ (s : SubKey). not (same k s)) keys) ≡ false) (same_is k x is) (none_left k keys)
    go false is = among_without x k keys is ∙ none

left-fewer : (gone : SubKey → Bool) (ks : List SubKey) (x : SubKey) (r : Queue Numbered) → is_among x r.subscriptions ≡ false → is_among x (Left gone ks r).subscriptions ≡ false
left-fewer gone [] x r none = none
left-fewer gone (k ∷ ks) x r none = go (gone k) (λ q y. left-fewer gone ks x q y)
  where
    go : (b : Bool) → ((q : Queue Numbered) → is_among x q.subscriptions ≡ false → is_among x (Left gone ks q).subscriptions ≡ false) → is_among x (Left gone ks (cond b (cancelled k r) r)).subscriptions ≡ false
    go true more = more (cancelled k r) (fewer-among x k r.subscriptions none)
    go false more = more r none

-- a key that the test names is out, with what waits under it
left-out : (gone : SubKey → Bool) (ks : List SubKey) (x : SubKey) (r : Queue Numbered) → gone x ≡ true → is_among x ks ≡ true → (is_among x (Left gone ks r).subscriptions ≡ false) × (entries_of x (Left gone ks r).waiting ≡ [])
left-out gone [] x r out among = absurd cc
left-out gone (k ∷ ks) x r out among = go (same x k) refl among (λ q y. left-out gone ks x q out y)
  where
    Out : Queue Numbered → Type 0
    Out q = (is_among x (Left gone ks q).subscriptions ≡ false) × (entries_of x (Left gone ks q).waiting ≡ [])

    go : (b : Bool) → same x k ≡ b → b || is_among x ks ≡ true → ((q : Queue Numbered) → is_among x ks ≡ true → Out q) → Out (cond (gone k) (cancelled k r) r)
    go true is more rest =
        let key : x ≡ k = same_is x k is in
        let named : gone k ≡ true = ap gone (sym key) ∙ out in
        let here : (is_among x (cancelled k r).subscriptions ≡ false) × (entries_of x (cancelled k r).waiting ≡ []) =
        subst (λ (z : SubKey). (is_among z (cancelled k r).subscriptions ≡ false) × (entries_of z (cancelled k r).waiting ≡ [])) (sym key) (none_left k r.subscriptions, entries_cancelled k r.waiting) in
        subst (λ (b : Bool). Out (cond b (cancelled k r) r)) (sym named)
        (left-fewer gone ks x (cancelled k r) here.0, left-none gone ks x (cancelled k r) here.1)
    go false is more rest = rest (cond (gone k) (cancelled k r) r) more

-- ---- lists that are filtered

kept-among : (gone : SubKey → Bool) (x : SubKey) (ss : List Standing) → gone x ≡ false → is_among x (map (λ (s : Standing). s.key) (filter (λ (s : Standing). not (gone s.key)) ss)) ≡ is_among x (map (λ (s : Standing). s.key) ss)
kept-among gone x [] stays = refl
kept-among gone x (s ∷ ss) stays = go (gone s.key) refl (kept-among gone x ss stays)
  where
    left : (b : Bool) (a : Bool) → b ≡ false → a ≡ b || a
    left true a e = absurd cc
    left false a e = refl

    go : (b : Bool) → gone s.key ≡ b → is_among x (map (λ (t : Standing). t.key) (filter (λ (t : Standing). not (gone t.key)) ss)) ≡ is_among x (map (λ (t : Standing). t.key) ss)
        → is_among x (map (λ (t : Standing). t.key) (cond (not b) (s ∷ filter (λ (t : Standing). not (gone t.key)) ss) (filter (λ (t : Standing). not (gone t.key)) ss))) ≡ same x s.key || is_among x (map (λ (t : Standing). t.key) ss)
    go true is rest = rest ∙ left (same x s.key) (is_among x (map (λ (t : Standing). t.key) ss)) (other_sym s.key x (differs gone s.key x stays is))
    go false is rest = ap (λ (b : Bool). same x s.key || b) rest

less-among : (p : Standing → Bool) (x : SubKey) (ss : List Standing) → is_among x (map (λ (s : Standing). s.key) ss) ≡ false → is_among x (map (λ (s : Standing). s.key) (filter p ss)) ≡ false
less-among p x [] none = refl
less-among p x (s ∷ ss) none = go (p s) (less-among p x ss (or-right (same x s.key) (is_among x (map (λ (t : Standing). t.key) ss)) none))
  where
    or-left : (a b : Bool) → a || b ≡ false → a ≡ false
    or-left true b e = absurd cc
    or-left false b e = refl

    or-right : (a b : Bool) → a || b ≡ false → b ≡ false
    or-right true b e = absurd cc
    or-right false b e = e

    both : (a b : Bool) → a ≡ false → b ≡ false → a || b ≡ false
    both true b e f = absurd cc
    both false b e f = f

    go : (b : Bool) → is_among x (map (λ (t : Standing). t.key) (filter p ss)) ≡ false → is_among x (map (λ (t : Standing). t.key) (cond b (s ∷ filter p ss) (filter p ss))) ≡ false
    go true rest = both (same x s.key) (is_among x (map (λ (t : Standing). t.key) (filter p ss))) (or-left (same x s.key) (is_among x (map (λ (t : Standing). t.key) ss)) none) rest
    go false rest = rest

apart-kept : (p : Standing → Bool) (ss : List Standing) → AreApart (map (λ (s : Standing). s.key) ss) → AreApart (map (λ (s : Standing). s.key) (filter p ss))
apart-kept p [] apart = tt
apart-kept p (s ∷ ss) apart = go (p s) (apart-kept p ss apart.1)
  where
    go : (b : Bool) → AreApart (map (λ (t : Standing). t.key) (filter p ss)) → AreApart (map (λ (t : Standing). t.key) (cond b (s ∷ filter p ss) (filter p ss)))
    go true rest = (less-among p s.key ss apart.0, rest)
    go false rest = rest

abbrev pub AreLone : List Standing → Type 0
AreLone ss = (i j : ℕ) (s t : Standing) → At ss i s → At ss j t → s.place ≡ t.place → i ≡ j

lone-kept : (p : Standing → Bool) (ss : List Standing) → AreLone ss → AreLone (filter p ss)
lone-kept p [] lone = λ i j s t at other is. absurd (none_at i s at)
lone-kept p (x ∷ ss) lone = go (p x) (lone-kept p ss (λ i j s t a b is. back i j (lone (suc i) (suc j) s t a b is)))
  where
    back : (i j : ℕ) → suc i ≡ suc j → i ≡ j
    back i j e = omega (arith, e)

    never : (k : ℕ) → zero ≡ suc k → ⊥
    never k e = omega (arith, e)

    go : (b : Bool) → AreLone (filter p ss) → AreLone (cond b (x ∷ filter p ss) (filter p ss))
    go true rest zero zero s t a b is = refl
    go true rest zero (suc j) s t a b is =
        let there = (In-kept p ss t (j, b)).0 in
        absurd (never there.0 (lone 0 (suc there.0) x t refl there.1 (ap (λ (z : Standing). z.place) (some_is x s a) ∙ is)))
    go true rest (suc i) zero s t a b is =
        let there = (In-kept p ss s (i, a)).0 in
        absurd (never there.0 (lone 0 (suc there.0) x s refl there.1 (ap (λ (z : Standing). z.place) (some_is x t b) ∙ sym is)))
    go true rest (suc i) (suc j) s t a b is = ap (λ (n : ℕ). suc n) (rest i j s t a b is)
    go false rest i j s t a b is = rest i j s t a b is

-- Subscriptions end.
pub holds-without : (posts : Subscription → ℕ → List Stored) (gone : SubKey → Bool) (subs : List Subscription) (values : List (Queue Stored)) (c : Joined) → Holds posts subs values c
    → Holds posts (filter (λ (s : Subscription). not (gone (key_of s))) subs) (without_each gone values) (without_standing gone c)
holds-without posts gone subs values c h = record {
  both = without_each gone h.both;
  values_are = ap (λ (l : List (Queue Stored)). without_each gone l) h.values_are ∙ each-left value_in gone h.both;
  numbers_are = ap (λ (l : List (Queue (ℕ × Cause))). without_each gone l) h.numbers_are ∙ each-left number_in gone h.both;
  each = both-filter (Counts posts c.lists.down h.both) (Counts posts c.lists.down (without_each gone h.both)) (λ (s : Subscription). not (gone (key_of s))) (λ (s : Standing). not (gone s.key)) subs c.standing h.each
      (λ i sub st p q n. ap (λ (k : SubKey). not (gone k)) n.key)
      (λ i sub st p q n stays. one sub st n (not-true (gone st.key) (ap (λ (k : SubKey). not (gone k)) (sym n.key) ∙ stays)));
  apart = apart-kept (λ (s : Standing). not (gone s.key)) c.standing h.apart;
  lone = lone-kept (λ (s : Standing). not (gone s.key)) c.standing h.lone;
  seats = λ i x k at has.
      let b = At-mapped (queue_without gone) h.both i x at in
      seat i b.0 k b.1 (ap (λ (z : Queue Numbered). is_among k z.subscriptions) (sym b.2) ∙ has) (gone k) refl;
  tidy = λ i x k at none.
      let b = At-mapped (queue_without gone) h.both i x at in
      ap (λ (z : Queue Numbered). entries_of k z.waiting) b.2 ∙ clean i b.0 k b.1 (ap (λ (z : Queue Numbered). is_among k z.subscriptions) (sym b.2) ∙ none) (gone k) refl (is_among k (b.0).subscriptions) refl;
  stood = λ i st at. (let was = (In-kept (λ (s : Standing). not (gone s.key)) c.standing st (i, at)).0 in h.stood was.0 st was.1);
  early = h.early;
}
  where
    not-true : (b : Bool) → not b ≡ true → b ≡ false
    not-true true e = absurd cc
    not-true false e = refl

    clash : (b : Bool) → b ≡ true → b ≡ false → ⊥
    clash true e f = cc
    clash false e f = cc

    one : (sub : Subscription) (st : Standing) → Counts posts c.lists.down h.both sub st → gone st.key ≡ false → Counts posts c.lists.down (without_each gone h.both) sub st
    one sub st n stays = record {
      key = n.key;
      other = n.other;
      counts = n.counts;
      numbers = home-map h.both st.key (stamp_of n.other (posts sub st.place) st.place) (stamp_of n.other (posts sub st.place) st.place) (sent_numbers st.place c.lists.down) (sent_numbers st.place c.lists.down) st.posts st.posts (queue_without gone)
          (λ x. left-among gone x.subscriptions x st.key stays)
          (λ x has r. left-rising gone x.subscriptions (stamp_of n.other (posts sub st.place) st.place) st.key (sent_numbers st.place c.lists.down) st.posts x stays r)
          n.numbers;
      shows = n.shows;
    }

    seat : (i : ℕ) (q : Queue Numbered) (k : SubKey) → At h.both i q → is_among k (queue_without gone q).subscriptions ≡ true → (b : Bool) → gone k ≡ b → is_among k (keys_standing (without_standing gone c)) ≡ true
    seat i q k at has true out = absurd (decide (is_among k q.subscriptions) refl)
      where
        decide : (b : Bool) → is_among k q.subscriptions ≡ b → ⊥
        decide true is = clash (is_among k (queue_without gone q).subscriptions) has (left-out gone q.subscriptions k q out is).0
        decide false is = clash (is_among k (queue_without gone q).subscriptions) has (left-fewer gone q.subscriptions k q is)
    seat i q k at has false stays =
        kept-among gone k c.standing stays ∙ h.seats i q k at (sym (left-among gone q.subscriptions q k stays) ∙ has)

    clean : (i : ℕ) (q : Queue Numbered) (k : SubKey) → At h.both i q → is_among k (queue_without gone q).subscriptions ≡ false → (b : Bool) → gone k ≡ b → (a : Bool) → is_among k q.subscriptions ≡ a → entries_of k (queue_without gone q).waiting ≡ []
    clean i q k at none true out true is = (left-out gone q.subscriptions k q out is).1
    clean i q k at none true out false is = left-none gone q.subscriptions k q (h.tidy i q k at is)
    clean i q k at none false stays a is = left-none gone q.subscriptions k q (h.tidy i q k at (sym (left-among gone q.subscriptions q k stays) ∙ none))

-- ---- events on or off

each-switched : {F : Type 0} (f : Numbered → F) (on : Bool) (qs : List (Queue Numbered)) → map (switched on) (map (queue_images f) qs) ≡ map (queue_images f) (map (switched on) qs)
each-switched f on [] = refl
each-switched {F} f on (q ∷ qs) = ap (λ (l : List (Queue F)). queue_images f (switched on q) ∷ l) (each-switched f on qs)

pub holds-switched : (posts : Subscription → ℕ → List Stored) (on : Bool) (subs : List Subscription) (values : List (Queue Stored)) (c : Joined) → Holds posts subs values c → Holds posts subs (map (switched on) values) (record c { queues = map (switched on) c.queues })
holds-switched posts on subs values c h = record {
  both = map (switched on) h.both;
  values_are = ap (λ (l : List (Queue Stored)). map (switched on) l) h.values_are ∙ each-switched value_in on h.both;
  numbers_are = ap (λ (l : List (Queue (ℕ × Cause))). map (switched on) l) h.numbers_are ∙ each-switched number_in on h.both;
  each = both-all (Counts posts c.lists.down h.both) (Counts posts c.lists.down (map (switched on) h.both)) subs c.standing h.each (λ i sub st p q n. record {
    key = n.key;
    other = n.other;
    counts = n.counts;
    numbers = home-map h.both st.key (stamp_of n.other (posts sub st.place) st.place) (stamp_of n.other (posts sub st.place) st.place) (sent_numbers st.place c.lists.down) (sent_numbers st.place c.lists.down) st.posts st.posts (switched on) (λ x. refl)
        (λ x has r. record { wait = r.wait; are = r.are; rise = r.rise; newest = r.newest; ends = r.ends; next_is = r.next_is }) n.numbers;
    shows = n.shows;
  });
  apart = h.apart;
  lone = h.lone;
  seats = λ i x k at has. (let b = At-mapped (switched on) h.both i x at in h.seats i b.0 k b.1 (ap (λ (z : Queue Numbered). is_among k z.subscriptions) (sym b.2) ∙ has));
  tidy = λ i x k at none. (let b = At-mapped (switched on) h.both i x at in ap (λ (z : Queue Numbered). entries_of k z.waiting) b.2 ∙ h.tidy i b.0 k b.1 (ap (λ (z : Queue Numbered). is_among k z.subscriptions) (sym b.2) ∙ none));
  stood = h.stood;
  early = h.early;
}
