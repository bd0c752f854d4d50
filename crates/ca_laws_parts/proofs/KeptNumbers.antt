-- The numbers that wait in the queues of a circuit are those of subscriptions that stand.
use Rattle.std.proofs.Common.{◌≡◌, ℕ, zero, suc, ◌+◌, ◌&&◌, ◌⊎◌, inl, inr, Bool, true, false, cond, not, eqb, ◌||◌, List, [], ◌∷◌, ◌++◌, length, Option, Some, None, refl, sym, ap, subst, ◌∙◌}
use Rattle.std.specs.Prelude.{drop, filter, map, nat_lt, option_map, replicate, slice_get, slice_set, unwrap_or}
use Rattle.std.specs.List.{fold}
use Rattle.ca_queue.specs.declared.entry.SubKey.{SubKey}
use Rattle.ca_queue.specs.Circuit.{queue_posted, queue_without, without_each}
use Rattle.ca_queue.specs.Keys.{is_among, same}
use Rattle.ca_queue.specs.Queue.{Queue, added, cancelled, no_queue, posted, switched, with_front_taken}
use Rattle.ca_queue.specs.Waiting.{after_post, has_entry, is_of, may_take, replaces, with_last}
use Rattle.ca_queue.proofs.Keys.{among_push, among_without, same_is, same_itself}
use Rattle.ca_text.specs.Limits.{circuit_queues, queue_subscriptions}
use Rattle.ca_text.specs.Place.{At}
use Rattle.ca_text.proofs.Places.{some_is, At-set}
use Rattle.ca_model.specs.Due.{Action, Adds, Applies, Clears, Drops, Opens, Switches}
use Rattle.ca_model.specs.Due as action
use Rattle.ca_model.specs.History.{Cause, Reply, Update}
use Rattle.ca_model.specs.Server.{ServerEnd, concerns, key_of}
use Rattle.ca_model.specs.ServerCalls.{is_on}
use Rattle.ca_model.specs.ServerSteps as event
use Rattle.ca_model.specs.Speech.{In}
use Rattle.ca_model.specs.ServerEvents.{front_number, number_taken, numbers_after, stamped, with_number}
use Rattle.ca_model.specs.World.{Joined, Standing, World}
use Rattle.ca_laws_parts.proofs.Lasting.{Begins, Handled, Lasting}
use Rattle.ca_laws_parts.proofs.WritesLists.{In-append, In-kept, In-last, In-snoc, kept-in, none_at}
use Rattle.ca_laws_parts.specs.Numbers.{HasNumbers, HaveNumbers, IsNumberOf}
use Rattle.ca_laws_parts.proofs.Puts.{In-map, In-mapped}
use Rattle.ca_laws_parts.proofs.Thins.{any-at}

abbrev Entry : Type 0
Entry = SubKey × (ℕ × Cause)

abbrev Numbers : Type 0
Numbers = Queue (ℕ × Cause)

-- ---- one queue

-- standing subscriptions that have their keys and places still
abbrev Stay : List Standing → List Standing → Type 0
Stay ss tt = (w : Entry) → IsNumberOf ss w → IsNumberOf tt w

with-last-back : (key : SubKey) (item : ℕ × Cause) (q : List Entry) (w : Entry) → In (with_last key item q) w → In q w ⊎ (w ≡ (key, item))
with-last-back key item [] w h = absurd (none_at h.0 w h.1)
with-last-back key item (x ∷ q) w h = go (is_of key x && not (has_entry key q)) h (λ rest. with-last-back key item q w rest)
  where
    first : (xs : List Entry) (z : Entry) (k : ℕ) → At (z ∷ xs) k w → (w ≡ z) ⊎ In xs w
    first xs z zero at = inl (sym (some_is z w at))
    first xs z (suc k) at = inr (k, at)

    go : (b : Bool) → In (cond b ((key, item) ∷ q) (x ∷ with_last key item q)) w → (In (with_last key item q) w → In q w ⊎ (w ≡ (key, item))) → In (x ∷ q) w ⊎ (w ≡ (key, item))
    go true h more = elim (first q (key, item) h.0 h.1) [ inl is ↦ inr is | inr old ↦ inl (suc old.0, old.1) ]
    go false h more = elim (first (with_last key item q) x h.0 h.1) [
      | inl is ↦ inl (0, ap (λ (z : Entry). Some z) (sym is))
      | inr rest ↦ elim (more rest) [ inl old ↦ inl (suc old.0, old.1) | inr is ↦ inr is ]
    ]

post-back : (on : Bool) (key : SubKey) (item : ℕ × Cause) (q : List Entry) (w : Entry) → In (after_post on key item q) w → In q w ⊎ (w ≡ (key, item))
post-back on key item q w h = go (replaces on key q) h
  where
    go : (b : Bool) → In (cond b (with_last key item q) (q ++ (key, item) ∷ [])) w → In q w ⊎ (w ≡ (key, item))
    go true h = with-last-back key item q w h
    go false h = In-snoc q (key, item) w h

posted-numbers : (ss : List Standing) (key : SubKey) (item : ℕ × Cause) (q : Numbers) → IsNumberOf ss (key, item) → HasNumbers ss q → HasNumbers ss (queue_posted key item q)
posted-numbers ss key item q is h = go (is_among key q.subscriptions) refl
  where
    go : (b : Bool) → is_among key q.subscriptions ≡ b → HasNumbers ss (cond b (posted key item q) q)
    go true among w there = elim (post-back q.events_on key item q.waiting w there) [
      | inl old ↦ h w old
      | inr new ↦ (subst (λ (z : Entry). is_among z.0 q.subscriptions ≡ true) (sym new) among, subst (λ (z : Entry). IsNumberOf ss z) (sym new) is)
    ]
    go false among w there = h w there

-- the first entry of a subscription that begins
added-numbers : (ss : List Standing) (key : SubKey) (item : ℕ × Cause) (q : Numbers) → IsNumberOf ss (key, item) → HasNumbers ss q → HasNumbers ss (posted key item (added key q))
added-numbers ss key item q is h w there = elim (post-back q.events_on key item q.waiting w there) [
  | inl old ↦ (let r = h w old in (among_push w.0 key q.subscriptions ∙ either (is_among w.0 q.subscriptions) (same w.0 key) (inl r.0), r.1))
  | inr new ↦ (
    subst (λ (z : Entry). is_among z.0 (q.subscriptions ++ key ∷ []) ≡ true) (sym new) (among_push key key q.subscriptions ∙ either (is_among key q.subscriptions) (same key key) (inr (same_itself key))),
    subst (λ (z : Entry). IsNumberOf ss z) (sym new) is,
  )
]
  where
    either : (a b : Bool) → (a ≡ true) ⊎ (b ≡ true) → a || b ≡ true
    either true b h = refl
    either false b (inl e) = absurd cc
    either false b (inr e) = e

taken-numbers : (ss : List Standing) (q : Numbers) → HasNumbers ss q → HasNumbers ss (with_front_taken q)
taken-numbers ss q h w there = h w (go (may_take q.events_on q.waiting) there)
  where
    later : (l : List Entry) → In (drop 1 l) w → In l w
    later [] x = x
    later (z ∷ l) x = (suc x.0, x.1)

    go : (b : Bool) → In (cond b (drop 1 q.waiting) q.waiting) w → In q.waiting w
    go true x = later q.waiting x
    go false x = x

-- what is left without the keys that a test names
left-waits : (gone : SubKey → Bool) (ks : List SubKey) (r : Numbers) (w : Entry) → In (fold (λ (r : Numbers) (k : SubKey). cond (gone k) (cancelled k r) r) r ks).waiting w
    → In r.waiting w × ((k : SubKey) → In ks k → gone k ≡ true → same k w.0 ≡ false)
left-waits gone [] r w h = (h, λ k at is. absurd (none_at at.0 k at.1))
left-waits gone (k ∷ ks) r w h = go (gone k) refl h (λ x. left-waits gone ks (cancelled k r) w x) (λ x. left-waits gone ks r w x)
  where
    not-true : (b : Bool) → not b ≡ true → b ≡ false
    not-true true e = absurd cc
    not-true false e = refl

    go : (b : Bool) → gone k ≡ b → In (fold (λ (r : Numbers) (k : SubKey). cond (gone k) (cancelled k r) r) (cond b (cancelled k r) r) ks).waiting w
        → (In (fold (λ (r : Numbers) (k : SubKey). cond (gone k) (cancelled k r) r) (cancelled k r) ks).waiting w → In (cancelled k r).waiting w × ((x : SubKey) → In ks x → gone x ≡ true → same x w.0 ≡ false))
        → (In (fold (λ (r : Numbers) (k : SubKey). cond (gone k) (cancelled k r) r) r ks).waiting w → In r.waiting w × ((x : SubKey) → In ks x → gone x ≡ true → same x w.0 ≡ false))
        → In r.waiting w × ((x : SubKey) → In (k ∷ ks) x → gone x ≡ true → same x w.0 ≡ false)
    go true is h more rest =
        let m = more h in
        let f = In-kept (λ (z : Entry). not (is_of k z)) r.waiting w m.0 in
        (f.0, λ x at out. first x at.0 at.1 (not-true (same k w.0) f.1) (λ later. m.1 x later out))
      where
        first : (x : SubKey) (n : ℕ) → At (k ∷ ks) n x → same k w.0 ≡ false → (In ks x → same x w.0 ≡ false) → same x w.0 ≡ false
        first x zero at apart later = subst (λ (z : SubKey). same z w.0 ≡ false) (some_is k x at) apart
        first x (suc n) at apart later = later (n, at)
    go false is h more rest = (let m = rest h in (m.0, λ x at out. first x at.0 at.1 out (λ later. m.1 x later out)))
      where
        first : (x : SubKey) (n : ℕ) → At (k ∷ ks) n x → gone x ≡ true → (In ks x → same x w.0 ≡ false) → same x w.0 ≡ false
        first x zero at out later = absurd (let f : true ≡ false = sym out ∙ ap gone (sym (some_is k x at)) ∙ is in cc)
        first x (suc n) at out later = later (n, at)

left-among : (gone : SubKey → Bool) (ks : List SubKey) (r : Numbers) (x : SubKey) → gone x ≡ false → is_among x (fold (λ (r : Numbers) (k : SubKey). cond (gone k) (cancelled k r) r) r ks).subscriptions ≡ is_among x r.subscriptions
left-among gone [] r x stays = refl
left-among gone (k ∷ ks) r x stays = go (gone k) refl (left-among gone ks (cancelled k r) x stays) (left-among gone ks r x stays)
  where
    apart : (b : Bool) → same k x ≡ b → gone k ≡ true → same k x ≡ false
    apart true is out = absurd (let f : true ≡ false = sym out ∙ ap gone (same_is k x is) ∙ stays in cc)
    apart false is out = is

    go : (b : Bool) → gone k ≡ b → is_among x (fold (λ (r : Numbers) (k : SubKey). cond (gone k) (cancelled k r) r) (cancelled k r) ks).subscriptions ≡ is_among x (cancelled k r).subscriptions
        → is_among x (fold (λ (r : Numbers) (k : SubKey). cond (gone k) (cancelled k r) r) r ks).subscriptions ≡ is_among x r.subscriptions
        → is_among x (fold (λ (r : Numbers) (k : SubKey). cond (gone k) (cancelled k r) r) (cond b (cancelled k r) r) ks).subscriptions ≡ is_among x r.subscriptions
    go true out more rest = more ∙ among_without x k r.subscriptions (apart (same k x) refl out)
    go false out more rest = rest

without-numbers : (gone : SubKey → Bool) (ss : List Standing) (q : Numbers) → HasNumbers ss q → HasNumbers (filter (λ (s : Standing). not (gone s.key)) ss) (queue_without gone q)
without-numbers gone ss q h w there =
    let l = left-waits gone q.subscriptions q w there in
    let r = h w l.0 in
    let k = any-at (same w.0) q.subscriptions r.0 in
    let is : w.0 ≡ k.0 = same_is w.0 k.0 k.2 in
    let stays : gone w.0 ≡ false = decide (gone w.0) refl k.0 is (λ out. l.1 k.0 k.1 (ap gone (sym is) ∙ out)) in (
      left-among gone q.subscriptions q w.0 stays ∙ r.0,
      (r.1.0, kept-in (λ (s : Standing). not (gone s.key)) ss r.1.0 r.1.1 (ap (λ (b : Bool). not b) (ap gone r.1.2 ∙ stays)), r.1.2, r.1.3),
    )
  where
    decide : (b : Bool) → gone w.0 ≡ b → (k : SubKey) → w.0 ≡ k → (gone w.0 ≡ true → same k w.0 ≡ false) → gone w.0 ≡ false
    decide false e k is apart = e
    decide true e k is apart =
        absurd (let f : true ≡ false = sym (same_itself w.0) ∙ ap (λ (z : SubKey). same z w.0) is ∙ apart e in cc)

-- ---- all queues

map-numbers : (ss tt : List Standing) (f : Numbers → Numbers) (qs : List Numbers) → ((q : Numbers) → HasNumbers ss q → HasNumbers tt (f q)) → HaveNumbers ss qs → HaveNumbers tt (map f qs)
map-numbers ss tt f qs each h q there =
    let b = In-mapped f qs q there in
    subst (λ (z : Numbers). HasNumbers tt z) (sym b.2) (each b.0 (h b.0 b.1))

stay-numbers : (ss tt : List Standing) (qs : List Numbers) → Stay ss tt → HaveNumbers ss qs → HaveNumbers tt qs
stay-numbers ss tt qs stay h q there w at = (let r = h q there w at in (r.0, stay w r.1))

-- one more number of a subscription
with-one : (c : Joined) (key : SubKey) → HaveNumbers c.standing c.queues → HaveNumbers (with_number c key).standing (with_number c key).queues
with-one c key h = stay-numbers c.standing (with_number c key).standing (with_number c key).queues stay (all c.standing (λ s at. at) c.queues h)
  where
    stay : Stay c.standing (with_number c key).standing
    stay w (st, at, is, (a, item)) =
        let f : Standing → Standing = λ (s : Standing). cond (same key s.key) (record s { posts = s.posts + 1 }) s in
        let same_st = both st (same key st.key) in
        (f st, In-map f c.standing st at, same_st.0 ∙ is, (a, item ∙ ap (λ (p : ℕ). let x : ℕ × Cause = (p, Update a) in x) (sym same_st.1)))
      where
        both : (t : Standing) (b : Bool) → ((cond b (record t { posts = t.posts + 1 }) t).key ≡ t.key) × ((cond b (record t { posts = t.posts + 1 }) t).place ≡ t.place)
        both t true = (refl, refl)
        both t false = (refl, refl)

    all : (ss : List Standing) → ((s : Standing) → In ss s → In c.standing s) → (qs : List Numbers) → HaveNumbers c.standing qs
        → HaveNumbers c.standing (fold (λ (qs : List Numbers) (s : Standing). cond (same key s.key) (map (queue_posted key (s.place, Update s.posts)) qs) qs) qs ss)
    all [] sub qs h = h
    all (s ∷ ss) sub qs h = all ss (λ t at. sub t (suc at.0, at.1)) (cond (same key s.key) (map (queue_posted key (s.place, Update s.posts)) qs) qs) (go (same key s.key) refl)
      where
        go : (b : Bool) → same key s.key ≡ b → HaveNumbers c.standing (cond b (map (queue_posted key (s.place, Update s.posts)) qs) qs)
        go true is =
            map-numbers c.standing c.standing (queue_posted key (s.place, Update s.posts)) qs
            (λ q one. posted-numbers c.standing key (s.place, Update s.posts) q (s, sub s (0, refl), sym (same_is key s.key is), (s.posts, refl)) one) h
        go false is = h

with-all : (c : Joined) (keys : List SubKey) → HaveNumbers c.standing c.queues → HaveNumbers (fold with_number c keys).standing (fold with_number c keys).queues
with-all c [] h = h
with-all c (key ∷ keys) h = with-all (with_number c key) keys (with-one c key h)

without-all : (gone : SubKey → Bool) (ss : List Standing) (qs : List Numbers) → HaveNumbers ss qs → HaveNumbers (filter (λ (s : Standing). not (gone s.key)) ss) (without_each gone qs)
without-all gone ss qs h = map-numbers ss (filter (λ (s : Standing). not (gone s.key)) ss) (queue_without gone) qs (λ q one. without-numbers gone ss q one) h

-- an update left
pub one-taken : (ss : List Standing) (qs : List Numbers) (i : ℕ) → HaveNumbers ss qs
    → HaveNumbers ss (unwrap_or (option_map (λ (q : Numbers). slice_set qs i (with_front_taken q)) (slice_get qs i)) qs)
one-taken ss qs i h = go (slice_get qs i) refl
  where
    go : (o : Option Numbers) → slice_get qs i ≡ o → HaveNumbers ss (unwrap_or (option_map (λ (q : Numbers). slice_set qs i (with_front_taken q)) o) qs)
    go None is = h
    go (Some q) is = λ z there. elim (At-set qs i (with_front_taken q) there.0 z there.1) [
      | inl new ↦ subst (λ (r : Numbers). HasNumbers ss r) (sym new.1) (taken-numbers ss q (h q (i, is)))
      | inr old ↦ h z (there.0, old.0)
    ]

stamped-numbers : (us : List event.Update) (c : Joined) → HaveNumbers c.standing c.queues → HaveNumbers (stamped us c).standing (stamped us c).queues
stamped-numbers [] c h = h
stamped-numbers (u ∷ us) c h =
    let item : ℕ × Cause = unwrap_or (front_number c.queues u.queue) (0, Reply) in
    let queues : List Numbers = unwrap_or (option_map (λ (q : Numbers). slice_set c.queues u.queue (with_front_taken q)) (slice_get c.queues u.queue)) c.queues in
    stamped-numbers us (record c { queues = queues; lists = record c.lists { down = c.lists.down ++ record { message = u.message; place = item.0; cause = item.1 } ∷ [] } }) (one-taken c.standing c.queues u.queue h)

-- a subscription begins
taken-in : (ss : List Standing) (key : SubKey) (item : ℕ × Cause) (qs : List Numbers) → IsNumberOf ss (key, item) → HaveNumbers ss qs → HaveNumbers ss (number_taken key item qs)
taken-in ss key item [] is h = h
taken-in ss key item (q ∷ qs) is h = go (nat_lt (length q.subscriptions) queue_subscriptions) (taken-in ss key item qs is (λ z at. h z (suc at.0, at.1)))
  where
    go : (b : Bool) → HaveNumbers ss (number_taken key item qs) → HaveNumbers ss (cond b (posted key item (added key q) ∷ qs) (q ∷ number_taken key item qs))
    go true rest z (zero, at) = subst (λ (r : Numbers). HasNumbers ss r) (some_is (posted key item (added key q)) z at) (added-numbers ss key item q is (h q (0, refl)))
    go true rest z (suc k, at) = h z (suc k, at)
    go false rest z (zero, at) = subst (λ (r : Numbers). HasNumbers ss r) (some_is q z at) (h q (0, refl))
    go false rest z (suc k, at) = rest z (k, at)

acted-numbers : (place : ℕ) (did : Action) (c : Joined) → HaveNumbers c.standing c.queues → HaveNumbers (numbers_after place did c).standing (numbers_after place did c).queues
acted-numbers place (Adds s) c h =
    let new : Standing = record { key = key_of s; place = place; posts = 1 } in
    taken-in (c.standing ++ new ∷ []) (key_of s) (place, Update 0) c.queues (new, In-last c.standing new, refl, (0, refl))
    (stay-numbers c.standing (c.standing ++ new ∷ []) c.queues (λ w is. (is.0, In-append c.standing (new ∷ []) is.0 is.1, is.2, is.3)) h)
acted-numbers place (Drops key) c h = without-all (same key) c.standing c.queues h
acted-numbers place (Clears sid) c h = without-all (λ (k : SubKey). eqb k.sid sid) c.standing c.queues h
acted-numbers place (Switches on) c h = map-numbers c.standing c.standing (switched on) c.queues (λ q one. one) h
acted-numbers place (Opens ch) c h = h
acted-numbers place action.Greets c h = h
acted-numbers place (action.Names p) c h = h
acted-numbers place action.Nothing c h = h
acted-numbers place (Applies name value busies) c h = h
acted-numbers place (action.Waits name value) c h = h

-- ---- over events

abbrev pub NumbersOn : ℕ → ServerEnd → Joined → Type 0
NumbersOn n e c = HaveNumbers c.standing c.queues

pub numbers-lasting : Lasting NumbersOn
numbers-lasting = record {
  stays = λ n e f c d held goes h. subst (λ (ss : List Standing). HaveNumbers ss d.queues) (sym goes.standing) (subst (λ (qs : List Numbers). HaveNumbers c.standing qs) (sym goes.queues) h);
  posted = λ n name mask v e c h. with-all c (map key_of (filter (concerns name mask) e.subscriptions)) h;
  removed = λ n name e c h. without-all (is_on _) c.standing c.queues h;
  pumped = λ n us e after c folds h. stamped-numbers us c h;
  replied = λ n e c place ms h. h;
}

none-waits : (n : ℕ) (ss : List Standing) → HaveNumbers ss (replicate n no_queue)
none-waits zero ss q there = absurd (none_at there.0 q there.1)
none-waits (suc n) ss q there = go there.0 there.1 (λ rest. none-waits n ss q rest)
  where
    go : (k : ℕ) → At (no_queue ∷ replicate n no_queue) k q → (In (replicate n no_queue) q → HasNumbers ss q) → HasNumbers ss q
    go zero at more = λ w h. absurd (none_at h.0 w (subst (λ (z : Numbers). At z.waiting h.0 w) (sym (some_is no_queue q at)) h.1))
    go (suc k) at more = more (k, at)

pub numbers-begun : (w : World) → Begins NumbersOn w
numbers-begun w n moment c more new = subst (λ (qs : List Numbers). HaveNumbers c.standing qs) (sym new.queues) (none-waits circuit_queues c.standing)

pub numbers-kept : Handled NumbersOn
numbers-kept n y e new s replies did step c at due acts h = acted-numbers (length c.lists.handled) did c h
