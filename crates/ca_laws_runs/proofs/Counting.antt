-- What is held of an end's queues and of its circuit's numbers, as a post is numbered
-- and as updates leave.
use Rattle.std.proofs.Common.{◌≡◌, ℕ, zero, suc, ◌+◌, ◌<◌, ◌≤◌, Bool, true, false, cond, ◌||◌, List, [], ◌∷◌, ◌++◌, length, Option, refl, sym, ap, subst, ◌∙◌, arith}
use Rattle.std.specs.Prelude.{map, unwrap_or}
use Rattle.std.specs.List.{fold}
use Rattle.std.proofs.lemmas.List.{length-append}
use Rattle.ca_queue.specs.declared.entry.SubKey.{SubKey}
use Rattle.ca_queue.specs.Circuit.{queue_posted}
use Rattle.ca_queue.specs.Images.{queue_images}
use Rattle.ca_queue.specs.Keys.{AreApart, is_among, same}
use Rattle.ca_queue.specs.Queue.{Queue, posted}
use Rattle.ca_queue.specs.Waiting.{entries_of}
use Rattle.ca_queue.proofs.Images.{posted_images}
use Rattle.ca_queue.proofs.Keys.{same_is, same_itself}
use Rattle.ca_queue.proofs.Subscribers.{others_posted}
use Rattle.ca_text.specs.Place.{At}
use Rattle.ca_text.proofs.Places.{some_is, At-append, At-last, At-map, At-mapped, At-one}
use Rattle.ca_model.specs.History.{Cause, Update}
use Rattle.ca_model.specs.Server.{Subscription}
use Rattle.ca_model.specs.Speech.{Stored}
use Rattle.ca_model.specs.ServerEvents.{with_number}
use Rattle.ca_model.specs.World.{Joined, Standing}
use Rattle.ca_laws_parts.specs.InStep.{Numbered, keys_standing, number_in, value_in}
use Rattle.ca_laws_parts.specs.Rising.{Rising}
use Rattle.ca_laws_parts.proofs.Posted.{keys-stay}
use Rattle.ca_laws_parts.proofs.Rising.{ends-greatest, rising-other-post, rising-posted}
use Rattle.ca_laws_parts.specs.Both.{Both}
use Rattle.ca_laws_parts.proofs.WritesLists.{none_at}
use Rattle.ca_laws_runs.specs.Holds.{Counts, Holds, Home, post_at, sent_numbers, stamp_of}

-- ---- two lists side by side

pub both-right : {A B : Type 0} (Q P : A → B → Type 0) (g : B → B) (xs : List A) (ys : List B) → Both Q xs ys → ((i : ℕ) (x : A) (y : B) → At xs i x → At ys i y → Q x y → P x (g y)) → Both P xs (map g ys)
both-right Q P g [] [] both h = tt
both-right Q P g [] (b ∷ ys) both h = absurd both
both-right Q P g (a ∷ xs) [] both h = absurd both
both-right Q P g (a ∷ xs) (b ∷ ys) both h = (h 0 a b refl refl both.0, both-right Q P g xs ys both.1 (λ i x y p q r. h (suc i) x y p q r))

-- ---- keys

or-left : (a b : Bool) → a || b ≡ false → a ≡ false
or-left true b e = absurd cc
or-left false b e = refl

or-right : (a b : Bool) → a || b ≡ false → b ≡ false
or-right true b e = absurd cc
or-right false b e = e

or-true : (a b : Bool) → b ≡ true → a || b ≡ true
or-true true b e = refl
or-true false b e = e

pub key-among : (ss : List Standing) (i : ℕ) (s : Standing) → At ss i s → is_among s.key (map (λ (x : Standing). x.key) ss) ≡ true
key-among [] i s at = absurd (none_at i s at)
key-among (x ∷ ss) zero s at =
    ap (λ (z : Standing). same s.key z.key || is_among s.key (map (λ (y : Standing). y.key) ss)) (some_is x s at)
    ∙ ap (λ (b : Bool). b || is_among s.key (map (λ (y : Standing). y.key) ss)) (same_itself s.key)
key-among (x ∷ ss) (suc i) s at = or-true (same s.key x.key) (is_among s.key (map (λ (y : Standing). y.key) ss)) (key-among ss i s at)

-- two that have one key are one
pub key-once : (ss : List Standing) (i j : ℕ) (s t : Standing) → AreApart (map (λ (x : Standing). x.key) ss) → At ss i s → At ss j t → same s.key t.key ≡ true → i ≡ j
key-once [] i j s t apart p q is = absurd (none_at i s p)
key-once (x ∷ ss) zero zero s t apart p q is = refl
key-once (x ∷ ss) zero (suc j) s t apart p q is =
    let first : x ≡ s = some_is x s p in
    let key : x.key ≡ t.key = ap (λ (z : Standing). z.key) first ∙ same_is s.key t.key is in
    absurd (let f : true ≡ false = sym (key-among ss j t q) ∙ ap (λ (k : SubKey). is_among k (map (λ (y : Standing). y.key) ss)) (sym key) ∙ apart.0 in cc)
key-once (x ∷ ss) (suc i) zero s t apart p q is =
    let first : x ≡ t = some_is x t q in
    let key : x.key ≡ s.key = ap (λ (z : Standing). z.key) first ∙ sym (same_is s.key t.key is) in
    absurd (let f : true ≡ false = sym (key-among ss i s p) ∙ ap (λ (k : SubKey). is_among k (map (λ (y : Standing). y.key) ss)) (sym key) ∙ apart.0 in cc)
key-once (x ∷ ss) (suc i) (suc j) s t apart p q is = ap (λ (n : ℕ). suc n) (key-once ss i j s t apart.1 p q is)

-- ---- stamps

pub post-front : (other : Stored) (posts : List Stored) (v : Stored) (a : ℕ) → a < length posts → post_at other posts a ≡ post_at other (posts ++ v ∷ []) a
post-front other [] v a lt = absurd (omega (arith, lt))
post-front other (x ∷ posts) v zero lt = refl
post-front other (x ∷ posts) v (suc a) lt = post-front other posts v a (omega (arith, lt))

pub post-last : (other : Stored) (posts : List Stored) (v : Stored) → post_at other (posts ++ v ∷ []) (length posts) ≡ v
post-last other posts v = ap (λ (o : Option Stored). unwrap_or o other) (At-last posts v)

pub post-there : (other : Stored) (posts : List Stored) (a : ℕ) → a < length posts → At posts a (post_at other posts a)
post-there other [] a lt = absurd (omega (arith, lt))
post-there other (x ∷ posts) zero lt = refl
post-there other (x ∷ posts) (suc a) lt = post-there other posts a (omega (arith, lt))

map-same : (f g : ℕ → Numbered) (ns : List ℕ) → ((i a : ℕ) → At ns i a → f a ≡ g a) → map f ns ≡ map g ns
map-same f g [] same_all = refl
map-same f g (n ∷ ns) same_all = ap (λ (x : Numbered). x ∷ map f ns) (same_all 0 n refl) ∙ ap (λ (l : List Numbered). g n ∷ l) (map-same f g ns (λ i a at. same_all (suc i) a at))

-- each number is below the next
pub rising-below : (stamp : ℕ → Numbered) (key : SubKey) (gone : List ℕ) (next : ℕ) (q : Queue Numbered) (r : Rising stamp key gone next q) (i a : ℕ) → At (gone ++ r.wait) i a → a < next
rising-below stamp key gone next q r i a at =
    let le : a ≤ r.newest = ends-greatest (gone ++ r.wait) r.newest r.rise r.ends i a at in
    let is : next ≡ r.newest + 1 = r.next_is in
    omega (arith, le, is)

At-later : {A : Type 0} (xs ys : List A) (i : ℕ) (x : A) → At ys i x → (k : ℕ) × At (xs ++ ys) k x
At-later [] ys i x at = (i, at)
At-later (z ∷ xs) ys i x at = (let r = At-later xs ys i x at in (suc r.0, r.1))

pub restamp : (s t : ℕ → Numbered) (key : SubKey) (gone : List ℕ) (next : ℕ) (q : Queue Numbered) → ((a : ℕ) → a < next → s a ≡ t a) → Rising s key gone next q → Rising t key gone next q
restamp s t key gone next q alike r = record {
  wait = r.wait;
  are = r.are ∙ map-same s t r.wait (λ i a at. (let k = At-later gone r.wait i a at in alike a (rising-below s key gone next q r k.0 a k.1)));
  rise = r.rise;
  newest = r.newest;
  ends = r.ends;
  next_is = r.next_is;
}

-- ---- each queue changes

pub home-map : (both : List (Queue Numbered)) (key : SubKey) (s t : ℕ → Numbered) (g h : List ℕ) (m n : ℕ) (f : Queue Numbered → Queue Numbered) → ((x : Queue Numbered) → is_among key (f x).subscriptions ≡ is_among key x.subscriptions)
    → ((x : Queue Numbered) → is_among key x.subscriptions ≡ true → Rising s key g m x → Rising t key h n (f x)) → Home both key s g m → Home (map f both) key t h n
home-map both key s t g h m n f members rise o = record {
  home = o.home;
  q = f o.q;
  at = At-map f both o.home o.q o.at;
  has = members o.q ∙ o.has;
  rising = rise o.q o.has o.rising;
  elsewhere = λ i x at has. (let b = At-mapped f both i x at in o.elsewhere i b.0 b.1 (sym (members b.0) ∙ ap (λ (z : Queue Numbered). is_among key z.subscriptions) (sym b.2) ∙ has));
}

-- ---- one subscription gets a number

abbrev Numbers : Type 0
Numbers = List (Queue (ℕ × Cause))

abbrev numbering : SubKey → Numbers → Standing → Numbers
numbering key qs s = cond (same key s.key) (map (queue_posted key (s.place, Update s.posts)) qs) qs

fold-none : (key : SubKey) (qs : Numbers) (ss : List Standing) → is_among key (map (λ (s : Standing). s.key) ss) ≡ false → fold (numbering key) qs ss ≡ qs
fold-none key qs [] none = refl
fold-none key qs (s ∷ ss) none =
    let first : same key s.key ≡ false = or-left (same key s.key) (is_among key (map (λ (x : Standing). x.key) ss)) none in
    ap (λ (b : Bool). fold (numbering key) (cond b (map (queue_posted key (s.place, Update s.posts)) qs) qs) ss) first
    ∙ fold-none key qs ss (or-right (same key s.key) (is_among key (map (λ (x : Standing). x.key) ss)) none)

fold-one : (key : SubKey) (qs : Numbers) (ss : List Standing) → AreApart (map (λ (s : Standing). s.key) ss) → is_among key (map (λ (s : Standing). s.key) ss) ≡ true
    → (i : ℕ) × (s : Standing) × At ss i s × (same key s.key ≡ true) × (fold (numbering key) qs ss ≡ map (queue_posted key (s.place, Update s.posts)) qs)
fold-one key qs [] apart among = absurd cc
fold-one key qs (s ∷ ss) apart among = go (same key s.key) refl among (λ h. fold-one key qs ss apart.1 h)
  where
    rest : List SubKey
    rest = map (λ (x : Standing). x.key) ss

    go : (b : Bool) → same key s.key ≡ b → b || is_among key rest ≡ true
        → (is_among key rest ≡ true → (i : ℕ) × (x : Standing) × At ss i x × (same key x.key ≡ true) × (fold (numbering key) qs ss ≡ map (queue_posted key (x.place, Update x.posts)) qs))
        → (i : ℕ) × (x : Standing) × At (s ∷ ss) i x × (same key x.key ≡ true) × (fold (numbering key) (cond (same key s.key) (map (queue_posted key (s.place, Update s.posts)) qs) qs) ss ≡ map (queue_posted key (x.place, Update x.posts)) qs)
    go true is some more =
        let none : is_among key rest ≡ false = subst (λ (k : SubKey). is_among k rest ≡ false) (sym (same_is key s.key is)) apart.0 in (
          0,
          s,
          refl,
          is,
          ap (λ (b : Bool). fold (numbering key) (cond b (map (queue_posted key (s.place, Update s.posts)) qs) qs) ss) is
              ∙ fold-none key (map (queue_posted key (s.place, Update s.posts)) qs) ss none,
        )
    go false is some more =
        let r = more some in
        (suc r.0, r.1, r.2, r.3, ap (λ (b : Bool). fold (numbering key) (cond b (map (queue_posted key (s.place, Update s.posts)) qs) qs) ss) is ∙ r.4)

each-follows : {F : Type 0} (f : Numbered → F) (g : Queue F → Queue F) (h : Queue Numbered → Queue Numbered) → ((q : Queue Numbered) → g (queue_images f q) ≡ queue_images f (h q)) → (qs : List (Queue Numbered)) → map g (map (queue_images f) qs) ≡ map (queue_images f) (map h qs)
each-follows f g h alike [] = refl
each-follows {F} f g h alike (q ∷ qs) = ap (λ (r : Queue F). r ∷ map g (map (queue_images f) qs)) (alike q) ∙ ap (λ (l : List (Queue F)). queue_images f (h q) ∷ l) (each-follows f g h alike qs)

posted-follows : {F : Type 0} (f : Numbered → F) (key : SubKey) (entry : Numbered) (q : Queue Numbered) → queue_posted key (f entry) (queue_images f q) ≡ queue_images f (queue_posted key entry q)
posted-follows f key entry q = go (is_among key q.subscriptions)
  where
    go : (b : Bool) → cond b (posted key (f entry) (queue_images f q)) (queue_images f q) ≡ queue_images f (cond b (posted key entry q) q)
    go true = posted_images f key entry q
    go false = refl

posted-subs : (key : SubKey) (entry : Numbered) (q : Queue Numbered) → (queue_posted key entry q).subscriptions ≡ q.subscriptions
posted-subs key entry q = go (is_among key q.subscriptions)
  where
    go : (b : Bool) → (cond b (posted key entry q) q).subscriptions ≡ q.subscriptions
    go true = refl
    go false = refl

-- what a post leaves of other keys
posted-others : (key k : SubKey) (entry : Numbered) (q : Queue Numbered) → same key k ≡ false → entries_of k (queue_posted key entry q).waiting ≡ entries_of k q.waiting
posted-others key k entry q other = go (is_among key q.subscriptions)
  where
    go : (b : Bool) → entries_of k (cond b (posted key entry q) q).waiting ≡ entries_of k q.waiting
    go true = others_posted q.events_on key k entry q.waiting other
    go false = refl

-- One more post of a subscription is numbered.
pub holds-number : (posts more : Subscription → ℕ → List Stored) (subs : List Subscription) (values : List (Queue Stored)) (c : Joined) (key : SubKey) (v : Stored) → is_among key (keys_standing c) ≡ true
    → ((i : ℕ) (sub : Subscription) (st : Standing) → At subs i sub → At c.standing i st → more sub st.place ≡ cond (same key st.key) (posts sub st.place ++ v ∷ []) (posts sub st.place))
    → Holds posts subs values c → Holds more subs (map (queue_posted key v) values) (with_number c key)
holds-number posts more subs values c key v among grow h = record {
  both = map (queue_posted key entry) h.both;
  values_are = ap (λ (l : List (Queue Stored)). map (queue_posted key v) l) h.values_are ∙ each-follows value_in (queue_posted key v) (queue_posted key entry) (posted-follows value_in key entry) h.both;
  numbers_are = one.4 ∙ ap (λ (l : Numbers). map (queue_posted key (one.1.place, Update one.1.posts)) l) h.numbers_are ∙ each-follows number_in (queue_posted key (one.1.place, Update one.1.posts)) (queue_posted key entry) (posted-follows number_in key entry) h.both;
  each = both-right (Counts posts c.lists.down h.both) (Counts more c.lists.down (map (queue_posted key entry) h.both)) bump subs c.standing h.each each-one;
  apart = subst (λ (l : List SubKey). AreApart l) (sym (keys-stay key c)) h.apart;
  lone = λ i j s t p q is.
      let a = At-mapped bump c.standing i s p in
      let b = At-mapped bump c.standing j t q in
      h.lone i j a.0 b.0 a.1 b.1 (sym (bump-place a.0) ∙ ap (λ (z : Standing). z.place) (sym a.2) ∙ is ∙ ap (λ (z : Standing). z.place) b.2 ∙ bump-place b.0);
  seats = λ i x k at has.
      let b = At-mapped (queue_posted key entry) h.both i x at in
      subst (λ (l : List SubKey). is_among k l ≡ true) (sym (keys-stay key c)) (h.seats i b.0 k b.1 (ap (λ (l : List SubKey). is_among k l) (sym (posted-subs key entry b.0)) ∙ ap (λ (z : Queue Numbered). is_among k z.subscriptions) (sym b.2) ∙ has));
  tidy = λ i x k at none.
      let b = At-mapped (queue_posted key entry) h.both i x at in
      let before : is_among k b.0.subscriptions ≡ false = ap (λ (l : List SubKey). is_among k l) (sym (posted-subs key entry b.0)) ∙ ap (λ (z : Queue Numbered). is_among k z.subscriptions) (sym b.2) ∙ none in
      ap (λ (z : Queue Numbered). entries_of k z.waiting) b.2 ∙ tidy-one k b.0 before (same key k) refl ∙ h.tidy i b.0 k b.1 before;
  stood = λ i st at. (let a = At-mapped bump c.standing i st at in subst (λ (n : ℕ). n < length c.lists.handled) (sym (ap (λ (z : Standing). z.place) a.2 ∙ bump-place a.0)) (h.stood i a.0 a.1));
  early = h.early;
}
  where
    one : (i : ℕ) × (s : Standing) × At c.standing i s × (same key s.key ≡ true) × (fold (numbering key) c.queues c.standing ≡ map (queue_posted key (s.place, Update s.posts)) c.queues)
    one = fold-one key c.queues c.standing h.apart among

    entry : Numbered
    entry = record { value = v; place = one.1.place; number = one.1.posts }

    bump : Standing → Standing
    bump s = cond (same key s.key) (record s { posts = s.posts + 1 }) s

    bump-place : (s : Standing) → (bump s).place ≡ s.place
    bump-place s = go (same key s.key)
      where
        go : (b : Bool) → (cond b (record s { posts = s.posts + 1 }) s).place ≡ s.place
        go true = refl
        go false = refl

    tidy-one : (k : SubKey) (q : Queue Numbered) → is_among k q.subscriptions ≡ false → (b : Bool) → same key k ≡ b → entries_of k (queue_posted key entry q).waiting ≡ entries_of k q.waiting
    tidy-one k q none true is =
        let e : is_among key q.subscriptions ≡ false = ap (λ (z : SubKey). is_among z q.subscriptions) (same_is key k is) ∙ none in
        ap (λ (b : Bool). entries_of k (cond b (posted key entry q) q).waiting) e
    tidy-one k q none false is = posted-others key k entry q is

    each-one : (i : ℕ) (sub : Subscription) (st : Standing) → At subs i sub → At c.standing i st → Counts posts c.lists.down h.both sub st → Counts more c.lists.down (map (queue_posted key entry) h.both) sub (bump st)
    each-one i sub st at_sub at_st n = go (same key st.key) refl
      where
        Now : Standing → Type 0
        Now s = Counts more c.lists.down (map (queue_posted key entry) h.both) sub s

        go : (b : Bool) → same key st.key ≡ b → Now (cond b (record st { posts = st.posts + 1 }) st)
        go true is =
            let now : more sub st.place ≡ posts sub st.place ++ v ∷ [] = grow i sub st at_sub at_st ∙ ap (λ (b : Bool). cond b (posts sub st.place ++ v ∷ []) (posts sub st.place)) is in
            let place : i ≡ one.0 = key-once c.standing i one.0 st one.1 h.apart at_st one.2 (ap (λ (z : SubKey). same z one.1.key) (sym (same_is key st.key is)) ∙ one.3) in
            let own : st ≡ one.1 = At-one c.standing one.0 st one.1 (subst (λ (z : ℕ). At c.standing z st) place at_st) one.2 in
            let stamp : ℕ → Numbered = stamp_of n.other (posts sub st.place ++ v ∷ []) st.place in
            let counted : st.posts ≡ length (posts sub st.place) = n.counts in
            let last : entry ≡ stamp st.posts =
            ap (λ (s : Standing). let z : Numbered = record { value = v; place = s.place; number = s.posts } in z) (sym own)
            ∙ ap (λ (u : Stored). let z : Numbered = record { value = u; place = st.place; number = st.posts } in z) (sym (ap (λ (m : ℕ). post_at n.other (posts sub st.place ++ v ∷ []) m) counted ∙ post-last n.other (posts sub st.place) v)) in
            record {
              key = n.key;
              other = n.other;
              counts = (let l : length (posts sub st.place ++ v ∷ []) ≡ length (posts sub st.place) + 1 = length-append (posts sub st.place) (v ∷ []) in ap (λ (m : ℕ). m + 1) counted ∙ sym l) ∙ ap (λ (ps : List Stored). length ps) (sym now);
              numbers = subst (λ (ps : List Stored). Home (map (queue_posted key entry) h.both) st.key (stamp_of n.other ps st.place) (sent_numbers st.place c.lists.down) (st.posts + 1)) (sym now)
                  (home-map h.both st.key (stamp_of n.other (posts sub st.place) st.place) stamp (sent_numbers st.place c.lists.down) (sent_numbers st.place c.lists.down) st.posts (st.posts + 1) (queue_posted key entry)
                  (λ x. ap (λ (l : List SubKey). is_among st.key l) (posted-subs key entry x))
                  (λ x has r.
                  let fresh = rising-posted stamp st.key (sent_numbers st.place c.lists.down) st.posts x
                  (restamp (stamp_of n.other (posts sub st.place) st.place) stamp st.key (sent_numbers st.place c.lists.down) st.posts x
                  (λ a lt. ap (λ (u : Stored). let z : Numbered = record { value = u; place = st.place; number = a } in z) (post-front n.other (posts sub st.place) v a (omega (arith, lt, counted)))) r) in
                  let here : is_among key x.subscriptions ≡ true = ap (λ (z : SubKey). is_among z x.subscriptions) (same_is key st.key is) ∙ has in
                  let made : queue_posted key entry x ≡ posted st.key (stamp st.posts) x =
                  ap (λ (b : Bool). cond b (posted key entry x) x) here ∙ ap (λ (z : SubKey). posted z entry x) (same_is key st.key is) ∙ ap (λ (z : Numbered). posted st.key z x) last in
                  subst (λ (z : Queue Numbered). Rising stamp st.key (sent_numbers st.place c.lists.down) (st.posts + 1) z) (sym made) fresh)
                  n.numbers);
              shows = λ j a t at there cause.
                  let s = n.shows j a t at there cause in
                  (s.0, subst (λ (ps : List Stored). At ps a s.0) (sym now) (At-append (posts sub st.place) (v ∷ []) a s.0 s.1), s.2);
            }
        go false is =
            let now : more sub st.place ≡ posts sub st.place = grow i sub st at_sub at_st ∙ ap (λ (b : Bool). cond b (posts sub st.place ++ v ∷ []) (posts sub st.place)) is in
            record {
              key = n.key;
              other = n.other;
              counts = n.counts ∙ ap (λ (ps : List Stored). length ps) (sym now);
              numbers = subst (λ (ps : List Stored). Home (map (queue_posted key entry) h.both) st.key (stamp_of n.other ps st.place) (sent_numbers st.place c.lists.down) st.posts) (sym now)
                  (home-map h.both st.key (stamp_of n.other (posts sub st.place) st.place) (stamp_of n.other (posts sub st.place) st.place) (sent_numbers st.place c.lists.down) (sent_numbers st.place c.lists.down) st.posts st.posts (queue_posted key entry)
                  (λ x. ap (λ (l : List SubKey). is_among st.key l) (posted-subs key entry x))
                  (λ x has r. other-rising x is r (is_among key x.subscriptions))
                  n.numbers);
              shows = λ j a t at there cause.
                  let s = n.shows j a t at there cause in
                  (s.0, subst (λ (ps : List Stored). At ps a s.0) (sym now) s.1, s.2);
            }
          where
            other-rising : (x : Queue Numbered) → same key st.key ≡ false → Rising (stamp_of n.other (posts sub st.place) st.place) st.key (sent_numbers st.place c.lists.down) st.posts x → (b : Bool)
                → Rising (stamp_of n.other (posts sub st.place) st.place) st.key (sent_numbers st.place c.lists.down) st.posts (cond b (posted key entry x) x)
            other-rising x differs r true = rising-other-post (stamp_of n.other (posts sub st.place) st.place) st.key (sent_numbers st.place c.lists.down) st.posts key entry x differs r
            other-rising x differs r false = r
