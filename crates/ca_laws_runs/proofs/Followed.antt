-- Posts, removals, updates that leave, and messages that are handled keep subscriptions beside the
-- posts that they see.
use Rattle.std.proofs.Common.{◌≡◌, ℕ, zero, suc, ◌+◌, ◌≤◌, inl, inr, Bool, true, false, cond, not, ◌&&◌, ◌||◌, List, [], ◌∷◌, ◌++◌, length, Option, Some, None, refl, sym, ap, subst, ◌∙◌, append-nil, arith}
use Rattle.std.specs.Prelude.{filter, map}
use Rattle.std.specs.List.{cons_option, fold}
use Rattle.std.specs.Str.{bytes_eq}
use Rattle.std.proofs.lemmas.Slice.Eq.{bytes_eq-Decides}
use Rattle.ca_arena.specs.declared.handle.Handle.{Handle}
use Rattle.ca_ids.specs.Table.{under}
use Rattle.ca_ids.specs.Wire.{wire_of}
use Rattle.ca_queue.specs.declared.entry.SubKey.{SubKey}
use Rattle.ca_queue.specs.Circuit.{queue_posted, without_each}
use Rattle.ca_queue.specs.Keys.{AreApart, is_among, same}
use Rattle.ca_queue.specs.Queue.{Queue}
use Rattle.ca_queue.proofs.Keys.{other_sym, same_is, same_itself}
use Rattle.ca_text.specs.Place.{At}
use Rattle.ca_text.proofs.Places.{some_is, At-one}
use Rattle.ca_model.specs.History.{Entry}
use Rattle.ca_model.specs.Server.{OpenChannel, ServerEnd, Subscription, concerns, key_of, with_post}
use Rattle.ca_model.specs.Speech.{In, Stored, share_bit}
use Rattle.ca_model.specs.Posts.{post_in}
use Rattle.ca_model.specs.ServerEvents.{number_of, with_number}
use Rattle.ca_model.specs.World.{Joined, RecordSide, Standing}
use Rattle.ca_laws_parts.specs.InStep.{keys_standing}
use Rattle.ca_laws_parts.proofs.Posted.{keys-stay}
use Rattle.ca_laws_parts.specs.Agrees.{AreOthers}
use Rattle.ca_laws_parts.specs.Both.{Both}
use Rattle.ca_laws_parts.proofs.Lasting.{numbered_for}
use Rattle.ca_laws_parts.proofs.WritesLists.{In-kept, beside-left, both-all, both-at, both-filter, kept-in, none_at}
use Rattle.ca_laws_parts.proofs.WritesLives.{number-of, others-apart}
use Rattle.ca_laws_runs.specs.Entries.{IsPost, titles}
use Rattle.ca_laws_runs.specs.Follows.{Follows, Stands, logged_at, posts_by}
use Rattle.ca_laws_runs.specs.Holds.{Counts, Holds, sent_numbers}
use Rattle.ca_laws_runs.proofs.Changing.{holds-like, holds-without}
use Rattle.ca_laws_runs.proofs.Counting.{both-right, holds-number, key-once}
use Rattle.ca_laws_runs.proofs.PostFollowing.{length-more, matching-more, post-other, post-own, same-bytes, same-channels, stands-on, stands-within, titled}

-- ---- subscriptions end

-- Those that a test names end; the posts that the others see stay.
pub follows-without : (log lg : List Entry) (rs rt : List RecordSide) (gone : SubKey → Bool) (e f : ServerEnd) (c d : Joined) → f.subscriptions ≡ filter (λ (s : Subscription). not (gone (key_of s))) e.subscriptions → f.queues ≡ without_each gone e.queues
    → d.standing ≡ filter (λ (s : Standing). not (gone s.key)) c.standing → d.queues ≡ without_each gone c.queues → d.lists ≡ c.lists → length log ≤ length lg
    → ((sub : Subscription) (st : Standing) → gone (key_of sub) ≡ false → Stands log rs e c sub st → (k : ℕ) → In (titles rs) (sub.name, k) → In (titles rt) (sub.name, k))
    → ((sub : Subscription) → gone (key_of sub) ≡ false → (g : Handle) (ch : OpenChannel) → under e.channels g ≡ Some ch → wire_of g ≡ sub.wanted.sid → ch.name ≡ sub.name → ch.retired ≡ false → (x : OpenChannel) × (under f.channels g ≡ Some x) × (x.name ≡ sub.name) × (x.retired ≡ false))
    → ((sub : Subscription) (st : Standing) → gone (key_of sub) ≡ false → Stands log rs e c sub st → posts_by lg rt c.lists.handled sub st.place ≡ posts_by log rs c.lists.handled sub st.place)
    → Follows log rs e c → Follows lg rt f d
follows-without log lg rs rt gone e f c d subs queues standing numbers lists longer names channels posts p = record {
  placed = subst (λ (l : List Subscription). Both (Stands lg rt f d) l d.standing) (sym subs) (subst (λ (l : List Standing). Both (Stands lg rt f d) kept_subs l) (sym standing) placed_now);
  holds = subst (λ (l : List Subscription). Holds (posts_by lg rt d.lists.handled) l f.queues d) (sym subs)
      (subst (λ (q : List (Queue Stored)). Holds (posts_by lg rt d.lists.handled) kept_subs q d) (sym queues)
      (holds-like (posts_by log rs c.lists.handled) (posts_by lg rt d.lists.handled) kept_subs (without_each gone e.queues) left d (let is : length d.lists.handled ≡ length c.lists.handled = ap (λ (l : _). length l.handled) lists in omega (arith, is)) standing numbers
      (λ place. ap (λ (l : _). sent_numbers place l.down) lists) (λ j a t at cause. (j, subst (λ (l : _). At l.down j t) lists at))
      (λ i sub st a b.
      let s = both-at (Stands log rs e c) kept_subs kept_standing i sub st were a b in
      let stays = In-kept (λ (x : Subscription). not (gone (key_of x))) e.subscriptions sub (i, a) in
      ap (λ (l : _). posts_by lg rt l.handled sub st.place) lists ∙ posts sub st (not-true (gone (key_of sub)) stays.1) s)
      (holds-without (posts_by log rs c.lists.handled) gone e.subscriptions e.queues c p.holds)));
}
  where
    not-true : (b : Bool) → not b ≡ true → b ≡ false
    not-true true e = absurd cc
    not-true false e = refl

    kept_subs : List Subscription
    kept_subs = filter (λ (s : Subscription). not (gone (key_of s))) e.subscriptions

    kept_standing : List Standing
    kept_standing = filter (λ (s : Standing). not (gone s.key)) c.standing

    left : Joined
    left = record c { standing = kept_standing; queues = without_each gone c.queues }

    agree : (i : ℕ) (sub : Subscription) (st : Standing) → At e.subscriptions i sub → At c.standing i st → not (gone (key_of sub)) ≡ not (gone st.key)
    agree i sub st a b = (let n = both-at (Counts (posts_by log rs c.lists.handled) c.lists.down p.holds.both) e.subscriptions c.standing i sub st p.holds.each a b in ap (λ (k : SubKey). not (gone k)) n.key)

    were : Both (Stands log rs e c) kept_subs kept_standing
    were = both-filter (Stands log rs e c) (Stands log rs e c) (λ (s : Subscription). not (gone (key_of s))) (λ (s : Standing). not (gone s.key)) e.subscriptions c.standing p.placed (λ i sub st a b s. agree i sub st a b) (λ i sub st a b s stays. s)

    placed_now : Both (Stands lg rt f d) kept_subs kept_standing
    placed_now =
        both-filter (Stands log rs e c) (Stands lg rt f d) (λ (s : Subscription). not (gone (key_of s))) (λ (s : Standing). not (gone s.key)) e.subscriptions c.standing p.placed (λ i sub st a b s. agree i sub st a b)
        (λ i sub st a b s stays.
        let out : gone (key_of sub) ≡ false = not-true (gone (key_of sub)) stays in
        stands-on log lg rs rt e f c d sub st st refl (λ q x at. subst (λ (l : _). At l.up q x) (sym lists) at) (λ q h at. subst (λ (l : _). At l.handled q h) (sym lists) at) longer (names sub st out s) (channels sub out) s)

-- ---- a post

abbrev posts_after : (Subscription → ℕ → List Stored) → (SubKey → Bool) → Stored → Subscription → ℕ → List Stored
posts_after base done v sub place = cond (done (key_of sub)) (base sub place ++ v ∷ []) (base sub place)

abbrev done-after : List Subscription → (SubKey → Bool) → SubKey → Bool
done-after [] done = done
done-after (s ∷ ss) done = done-after ss (λ (k : SubKey). same (key_of s) k || done k)

or-left : (a b : Bool) → a || b ≡ false → a ≡ false
or-left true b e = absurd cc
or-left false b e = refl

or-right : (a b : Bool) → a || b ≡ false → b ≡ false
or-right true b e = absurd cc
or-right false b e = e

or-false : (a b : Bool) → a ≡ false → b ≡ false → a || b ≡ false
or-false true b e f = absurd cc
or-false false b e f = f

or-true : (a b : Bool) → b ≡ true → a || b ≡ true
or-true true b e = refl
or-true false b e = e

or-first : (a b : Bool) → a ≡ true → a || b ≡ true
or-first true b e = refl
or-first false b e = absurd cc

clash : (b : Bool) → b ≡ true → b ≡ false → ⊥
clash true e f = cc
clash false e f = cc

same-sym : (a b : SubKey) → same a b ≡ true → same b a ≡ true
same-sym a b is = subst (λ (k : SubKey). same k a ≡ true) (same_is a b is) (same_itself a)

unfold-done : (ss : List Subscription) (done : SubKey → Bool) (k : SubKey) → done k ≡ true → done-after ss done k ≡ true
unfold-done [] done k is = is
unfold-done (s ∷ ss) done k is = unfold-done ss (λ (x : SubKey). same (key_of s) x || done x) k (or-true (same (key_of s) k) (done k) is)

done-in : (ss : List Subscription) (done : SubKey → Bool) (k : SubKey) → is_among k (map key_of ss) ≡ true → done-after ss done k ≡ true
done-in [] done k among = absurd cc
done-in (s ∷ ss) done k among = go (same k (key_of s)) refl among (λ h. done-in ss (λ (x : SubKey). same (key_of s) x || done x) k h)
  where
    go : (b : Bool) → same k (key_of s) ≡ b → b || is_among k (map key_of ss) ≡ true → (is_among k (map key_of ss) ≡ true → done-after ss (λ (x : SubKey). same (key_of s) x || done x) k ≡ true) → done-after ss (λ (x : SubKey). same (key_of s) x || done x) k ≡ true
    go true is more rest = unfold-done ss (λ (x : SubKey). same (key_of s) x || done x) k (or-first (same (key_of s) k) (done k) (same-sym k (key_of s) is))
    go false is more rest = rest more

done-out : (ss : List Subscription) (done : SubKey → Bool) (k : SubKey) → is_among k (map key_of ss) ≡ false → done k ≡ false → done-after ss done k ≡ false
done-out [] done k none is = is
done-out (s ∷ ss) done k none is =
    done-out ss (λ (x : SubKey). same (key_of s) x || done x) k (or-right (same k (key_of s)) (is_among k (map key_of ss)) none)
    (or-false (same (key_of s) k) (done k) (other_sym k (key_of s) (or-left (same k (key_of s)) (is_among k (map key_of ss)) none)) is)

-- each of these gets a number
posted-fold : (log : List Entry) (rs : List RecordSide) (e : ServerEnd) (base : Subscription → ℕ → List Stored) (v : Stored) (subs ss : List Subscription) (done : SubKey → Bool) (values : List (Queue Stored)) (c : Joined) → AreApart (map key_of ss)
    → ((k : SubKey) → is_among k (map key_of ss) ≡ true → done k ≡ false) → ((i : ℕ) (s : Subscription) → At ss i s → is_among (key_of s) (keys_standing c) ≡ true)
    → Both (Stands log rs e c) subs c.standing → Holds (posts_after base done v) subs values c
    → Both (Stands log rs e (fold with_number c (map key_of ss))) subs (fold with_number c (map key_of ss)).standing
    × Holds (posts_after base (done-after ss done) v) subs (fold (λ (qs : List (Queue Stored)) (s : Subscription). map (queue_posted (key_of s) v) qs) values ss) (fold with_number c (map key_of ss))
posted-fold log rs e base v subs [] done values c apart fresh among placed h = (placed, h)
posted-fold log rs e base v subs (s ∷ ss) done values c apart fresh among placed h =
    posted-fold log rs e base v subs ss (λ (k : SubKey). same key k || done k) (map (queue_posted key v) values) (with_number c key) apart.1
    (λ k there. or-false (same key k) (done k) (differs k there) (fresh k (or-true (same k key) (is_among k (map key_of ss)) there)))
    (λ i x at. subst (λ (l : List SubKey). is_among (key_of x) l ≡ true) (sym (keys-stay key c)) (among (suc i) x at))
    (both-right (Stands log rs e c) (Stands log rs e (with_number c key)) bump subs c.standing placed (λ i sub st a b x. stands-on log log rs rs e e c (with_number c key) sub st (bump st) (bump-place st) (λ q y at. at) (λ q y at. at) (omega arith) (λ k there. there) (same-channels e e refl sub) x))
    (holds-number (posts_after base done v) (posts_after base (λ (k : SubKey). same key k || done k) v) subs values c key v (among 0 s refl)
    (λ i sub st a b. grow sub st (both-at (Counts (posts_after base done v) c.lists.down h.both) subs c.standing i sub st h.each a b) (same key (key_of sub)) refl) h)
  where
    key : SubKey
    key = key_of s

    bump : Standing → Standing
    bump t = cond (same key t.key) (record t { posts = t.posts + 1 }) t

    bump-place : (t : Standing) → (bump t).place ≡ t.place
    bump-place t = go (same key t.key)
      where
        go : (b : Bool) → (cond b (record t { posts = t.posts + 1 }) t).place ≡ t.place
        go true = refl
        go false = refl

    differs : (k : SubKey) → is_among k (map key_of ss) ≡ true → same key k ≡ false
    differs k there = go (same key k) refl
      where
        go : (b : Bool) → same key k ≡ b → same key k ≡ false
        go true is = absurd (clash (is_among k (map key_of ss)) there (subst (λ (x : SubKey). is_among x (map key_of ss) ≡ false) (same_is key k is) apart.0))
        go false is = is

    grow : (sub : Subscription) (st : Standing) → Counts (posts_after base done v) c.lists.down h.both sub st → (b : Bool) → same key (key_of sub) ≡ b
        → posts_after base (λ (k : SubKey). same key k || done k) v sub st.place ≡ cond (same key st.key) (posts_after base done v sub st.place ++ v ∷ []) (posts_after base done v sub st.place)
    grow sub st n true is =
        let undone : done (key_of sub) ≡ false = ap done (sym (same_is key (key_of sub) is)) ∙ fresh key (or-first (same key key) (is_among key (map key_of ss)) (same_itself key)) in
        ap (λ (b : Bool). cond (b || done (key_of sub)) (base sub st.place ++ v ∷ []) (base sub st.place)) is
        ∙ sym (ap (λ (k : SubKey). cond (same key k) (posts_after base done v sub st.place ++ v ∷ []) (posts_after base done v sub st.place)) (sym n.key)
        ∙ ap (λ (b : Bool). cond b (posts_after base done v sub st.place ++ v ∷ []) (posts_after base done v sub st.place)) is
        ∙ ap (λ (b : Bool). cond b (base sub st.place ++ v ∷ []) (base sub st.place) ++ v ∷ []) undone)
    grow sub st n false is =
        ap (λ (b : Bool). cond (b || done (key_of sub)) (base sub st.place ++ v ∷ []) (base sub st.place)) is
        ∙ sym (ap (λ (k : SubKey). cond (same key k) (posts_after base done v sub st.place ++ v ∷ []) (posts_after base done v sub st.place)) (sym n.key)
        ∙ ap (λ (b : Bool). cond b (posts_after base done v sub st.place ++ v ∷ []) (posts_after base done v sub st.place)) is)

fold-lists : (c : Joined) (keys : List SubKey) → (fold with_number c keys).lists ≡ c.lists
fold-lists c [] = refl
fold-lists c (k ∷ keys) = fold-lists (with_number c k) keys

-- keys of some of those that are apart
fewer-keys : (test : Subscription → Bool) (k : SubKey) (ss : List Subscription) → is_among k (map key_of ss) ≡ false → is_among k (map key_of (filter test ss)) ≡ false
fewer-keys test k [] none = refl
fewer-keys test k (s ∷ ss) none = go (test s) (fewer-keys test k ss (or-right (same k (key_of s)) (is_among k (map key_of ss)) none))
  where
    go : (b : Bool) → is_among k (map key_of (filter test ss)) ≡ false → is_among k (map key_of (cond b (s ∷ filter test ss) (filter test ss))) ≡ false
    go true rest = or-false (same k (key_of s)) (is_among k (map key_of (filter test ss))) (or-left (same k (key_of s)) (is_among k (map key_of ss)) none) rest
    go false rest = rest

apart-keys : (test : Subscription → Bool) (ss : List Subscription) → AreApart (map key_of ss) → AreApart (map key_of (filter test ss))
apart-keys test [] apart = tt
apart-keys test (s ∷ ss) apart = go (test s) (apart-keys test ss apart.1)
  where
    go : (b : Bool) → AreApart (map key_of (filter test ss)) → AreApart (map key_of (cond b (s ∷ filter test ss) (filter test ss)))
    go true rest = (fewer-keys test (key_of s) ss apart.0, rest)
    go false rest = rest

sub-among : (ss : List Subscription) (i : ℕ) (s : Subscription) → At ss i s → is_among (key_of s) (map key_of ss) ≡ true
sub-among [] i s at = absurd (none_at i s at)
sub-among (x ∷ ss) zero s at =
    ap (λ (z : Subscription). same (key_of s) (key_of z) || is_among (key_of s) (map key_of ss)) (some_is x s at)
    ∙ ap (λ (b : Bool). b || is_among (key_of s) (map key_of ss)) (same_itself (key_of s))
sub-among (x ∷ ss) (suc i) s at = or-true (same (key_of s) (key_of x)) (is_among (key_of s) (map key_of ss)) (sub-among ss i s at)

among-sub : (ss : List Subscription) (k : SubKey) → is_among k (map key_of ss) ≡ true → (i : ℕ) × (s : Subscription) × At ss i s × (same k (key_of s) ≡ true)
among-sub [] k among = absurd cc
among-sub (x ∷ ss) k among = go (same k (key_of x)) refl among (λ h. among-sub ss k h)
  where
    go : (b : Bool) → same k (key_of x) ≡ b → b || is_among k (map key_of ss) ≡ true → (is_among k (map key_of ss) ≡ true → (i : ℕ) × (s : Subscription) × At ss i s × (same k (key_of s) ≡ true)) → (i : ℕ) × (s : Subscription) × At (x ∷ ss) i s × (same k (key_of s) ≡ true)
    go true is more rest = (0, x, refl, is)
    go false is more rest = (let r = rest more in (suc r.0, r.1, r.2, r.3))

-- those that stand have the keys of an end's subscriptions
pub keys-both : (Q : Subscription → Standing → Type 0) (subs : List Subscription) (ss : List Standing) → ((sub : Subscription) (st : Standing) → Q sub st → key_of sub ≡ st.key) → Both Q subs ss → map key_of subs ≡ map (λ (s : Standing). s.key) ss
keys-both Q [] [] key both = refl
keys-both Q [] (s ∷ ss) key both = absurd both
keys-both Q (x ∷ subs) [] key both = absurd both
keys-both Q (x ∷ subs) (s ∷ ss) key both = ap (λ (k : SubKey). k ∷ map key_of subs) (key x s both.0) ∙ ap (λ (l : List SubKey). s.key ∷ l) (keys-both Q subs ss key both.1)

pub follows-posted : (log : List Entry) (rs : List RecordSide) (r : RecordSide) (mask : ℕ) (v : Stored) (entry : Entry) (e : ServerEnd) (c : Joined) → AreOthers rs → In rs r → IsPost r.number mask v entry
    → Follows log rs e c → Follows (log ++ entry ∷ []) rs (with_post r.name mask v e) (numbered_for r.name mask e c)
follows-posted log rs r mask v entry e c others in_rs is_post p = record {
  placed = both-all (Stands log rs e d) (Stands lg rs f d) e.subscriptions d.standing all.0
      (λ i sub st a b s. stands-on log lg rs rs e f d d sub st st refl (λ q x at. at) (λ q h at. at) (length-more log (entry ∷ [])) (λ k there. there) (same-channels e f refl sub) s);
  holds = holds-like (posts_after base (done-after ss none) v) (posts_by lg rs d.lists.handled) e.subscriptions f.queues d d (omega arith) refl refl (λ place. refl) (λ j a t at cause. (j, at)) pointwise all.1;
}
  where
    lg : List Entry
    lg = log ++ entry ∷ []

    f : ServerEnd
    f = with_post r.name mask v e

    d : Joined
    d = numbered_for r.name mask e c

    base : Subscription → ℕ → List Stored
    base = posts_by log rs c.lists.handled

    ss : List Subscription
    ss = filter (concerns r.name mask) e.subscriptions

    none : SubKey → Bool
    none k = false

    keys : map key_of e.subscriptions ≡ keys_standing c
    keys = keys-both (Counts base c.lists.down p.holds.both) e.subscriptions c.standing (λ sub st n. n.key) p.holds.each

    apart : AreApart (map key_of e.subscriptions)
    apart = subst (λ (l : List SubKey). AreApart l) (sym keys) p.holds.apart

    all : Both (Stands log rs e d) e.subscriptions d.standing × Holds (posts_after base (done-after ss none) v) e.subscriptions f.queues d
    all =
        posted-fold log rs e base v e.subscriptions ss none e.queues c (apart-keys (concerns r.name mask) e.subscriptions apart) (λ k there. refl)
        (λ i s at. (let k = (In-kept (concerns r.name mask) e.subscriptions s (i, at)).0 in subst (λ (l : List SubKey). is_among (key_of s) l ≡ true) keys (sub-among e.subscriptions k.0 s k.1)))
        p.placed p.holds

    -- a subscription that the post concerns was numbered, and no other
    done-is : (i : ℕ) (sub : Subscription) → At e.subscriptions i sub → (b : Bool) → concerns r.name mask sub ≡ b → done-after ss none (key_of sub) ≡ b
    done-is i sub at true is = (let k = kept-in (concerns r.name mask) e.subscriptions sub (i, at) is in done-in ss none (key_of sub) (sub-among ss k.0 sub k.1))
    done-is i sub at false is = done-out ss none (key_of sub) (out (is_among (key_of sub) (map key_of ss)) refl) refl
      where
        out : (b : Bool) → is_among (key_of sub) (map key_of ss) ≡ b → is_among (key_of sub) (map key_of ss) ≡ false
        out false e1 = e1
        out true e1 =
            let x = among-sub ss (key_of sub) e1 in
            let y = In-kept (concerns r.name mask) e.subscriptions x.1 (x.0, x.2) in
            let a = beside-left (Counts base c.lists.down p.holds.both) e.subscriptions c.standing i sub p.holds.each at in
            let b = beside-left (Counts base c.lists.down p.holds.both) e.subscriptions c.standing y.0.0 x.1 p.holds.each y.0.1 in
            let one : i ≡ y.0.0 = key-once c.standing i y.0.0 a.0 b.0 p.holds.apart a.1 b.1 (ap (λ (k : SubKey). same k (b.0).key) (sym a.2.key) ∙ ap (λ (k : SubKey). same (key_of sub) k) (sym b.2.key) ∙ x.3) in
            let same_sub : sub ≡ x.1 = At-one e.subscriptions y.0.0 sub x.1 (subst (λ (n : ℕ). At e.subscriptions n sub) one at) y.0.1 in
            absurd (clash (concerns r.name mask sub) (ap (concerns r.name mask) same_sub ∙ y.1) is)

    more-posts : (b : Bool) (l : List Stored) → l ++ cons_option (cond b (Some v) None) [] ≡ cond b (l ++ v ∷ []) l
    more-posts true l = refl
    more-posts false l = append-nil l

    posted-to : (sub : Subscription) (number : ℕ) → In (titles rs) (sub.name, number) → (b : Bool) → bytes_eq sub.name r.name ≡ b → post_in (number_of sub.name rs) (share_bit sub.mask) entry ≡ cond (b && share_bit mask sub.mask) (Some v) None
    posted-to sub number there true is =
        let named : r.name ≡ sub.name = sym ((bytes_eq-Decides sub.name r.name).0 is) in
        let own : number_of sub.name rs ≡ r.number = ap (λ (n : List ℕ). number_of n rs) (sym named) ∙ number-of rs in_rs.0 r others in_rs.1 in
        ap (λ (n : ℕ). post_in n (share_bit sub.mask) entry) own ∙ post-own r.number sub.mask v entry mask is_post
    posted-to sub number there false is =
        let x = titled rs (sub.name, number) there in
        let named : x.0.name ≡ sub.name = sym (ap (λ (t : List ℕ × ℕ). t.0) x.2) in
        let own : number_of sub.name rs ≡ x.0.number = ap (λ (n : List ℕ). number_of n rs) (sym named) ∙ number-of rs x.1.0 x.0 others x.1.1 in
        post-other (number_of sub.name rs) r.number mask (share_bit sub.mask) v entry is_post
        (λ numbers. elim (others-apart rs x.1.0 in_rs.0 x.0 r others x.1.1 in_rs.1) [
          | inl one ↦
              let same_record : x.0 ≡ r = At-one rs in_rs.0 x.0 r (subst (λ (n : ℕ). At rs n x.0) one x.1.1) in_rs.1 in
              clash (bytes_eq sub.name r.name) (same-bytes sub.name r.name (sym named ∙ ap (λ (z : RecordSide). z.name) same_record)) is
          | inr far ↦ far.1 (numbers ∙ own)
        ])

    pointwise : (i : ℕ) (sub : Subscription) (st : Standing) → At e.subscriptions i sub → At d.standing i st → posts_by lg rs d.lists.handled sub st.place ≡ posts_after base (done-after ss none) v sub st.place
    pointwise i sub st a b =
        let s = both-at (Stands log rs e d) e.subscriptions d.standing i sub st all.0 a b in
        let lists : d.lists ≡ c.lists = fold-lists c (map key_of ss) in
        let within : logged_at c.lists.handled st.place ≤ length log = subst (λ (l : _). logged_at l.handled st.place ≤ length log) lists (stands-within log rs e d sub st s) in
        ap (λ (l : _). posts_by lg rs l.handled sub st.place) lists
        ∙ matching-more log (entry ∷ []) (logged_at c.lists.handled st.place) (number_of sub.name rs) sub.mask within
        ∙ ap (λ (o : Option Stored). base sub st.place ++ cons_option o []) (posted-to sub s.number s.there (bytes_eq sub.name r.name) refl)
        ∙ more-posts (concerns r.name mask sub) (base sub st.place)
        ∙ ap (λ (x : Bool). cond x (base sub st.place ++ v ∷ []) (base sub st.place)) (sym (done-is i sub a (concerns r.name mask sub) refl))
