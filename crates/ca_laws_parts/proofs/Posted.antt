-- A post reaches values and numbers alike.
use Rattle.std.proofs.Common.{◌≡◌, ℕ, zero, suc, ◌+◌, Bool, true, false, cond, ◌||◌, List, [], ◌∷◌, Some, refl, sym, ap, subst, ◌∙◌}
use Rattle.std.specs.Prelude.{filter, map}
use Rattle.std.specs.List.{fold}
use Rattle.ca_text.specs.Place.{At}
use Rattle.ca_text.proofs.Places.{some_is}
use Rattle.ca_queue.specs.declared.entry.SubKey.{SubKey}
use Rattle.ca_queue.specs.Circuit.{queue_posted}
use Rattle.ca_queue.specs.Keys.{AreApart, is_among, same}
use Rattle.ca_queue.specs.Queue.{Queue}
use Rattle.ca_queue.proofs.Keys.{same_is, same_itself}
use Rattle.ca_model.specs.Server.{Open, ServerEnd, Subscription, concerns, key_of, with_post}
use Rattle.ca_model.specs.Speech.{In, Stored}
use Rattle.ca_model.specs.History.{Cause, Update}
use Rattle.ca_model.specs.ServerEvents.{keys_concerned, with_number}
use Rattle.ca_model.specs.World.{Joined, Standing}
use Rattle.ca_laws_parts.specs.InStep.{InStep, keys_standing}
use Rattle.ca_laws_parts.proofs.InStep.{step-posted}

none_at : {A : Type 0} (k : ℕ) (x : A) → At [] k x → ⊥
none_at k x e = cc

-- ---- one subscription gets a number

abbrev numbering : SubKey → List (Queue (ℕ × Cause)) → Standing → List (Queue (ℕ × Cause))
numbering key qs s = cond (same key s.key) (map (queue_posted key (s.place, Update s.posts)) qs) qs

or-left : (a b : Bool) → a || b ≡ false → a ≡ false
or-left true b e = absurd cc
or-left false b e = refl

or-right : (a b : Bool) → a || b ≡ false → b ≡ false
or-right true b e = absurd cc
or-right false b e = e

-- none of these has the key
fold-none : (key : SubKey) (qs : List (Queue (ℕ × Cause))) (ss : List Standing) → is_among key (map (λ (s : Standing). s.key) ss) ≡ false → fold (numbering key) qs ss ≡ qs
fold-none key qs [] none = refl
fold-none key qs (s ∷ ss) none =
    let first : same key s.key ≡ false = or-left (same key s.key) (is_among key (map (λ (x : Standing). x.key) ss)) none in
    ap (λ (b : Bool). fold (numbering key) (cond b (map (queue_posted key (s.place, Update s.posts)) qs) qs) ss) first
    ∙ fold-none key qs ss (or-right (same key s.key) (is_among key (map (λ (x : Standing). x.key) ss)) none)

-- one has it
fold-one : (key : SubKey) (qs : List (Queue (ℕ × Cause))) (ss : List Standing) → AreApart (map (λ (s : Standing). s.key) ss) → is_among key (map (λ (s : Standing). s.key) ss) ≡ true
    → (s : Standing) × (fold (numbering key) qs ss ≡ map (queue_posted key (s.place, Update s.posts)) qs)
fold-one key qs [] apart among = absurd cc
fold-one key qs (s ∷ ss) apart among = go (same key s.key) refl among (λ h. fold-one key qs ss apart.1 h)
  where
    rest : List SubKey
    rest = map (λ (x : Standing). x.key) ss

    Finds : Type 0
    Finds = (x : Standing) × (fold (numbering key) qs ss ≡ map (queue_posted key (x.place, Update x.posts)) qs)

    go : (b : Bool) → same key s.key ≡ b → b || is_among key rest ≡ true → (is_among key rest ≡ true → Finds) → (x : Standing) × (fold (numbering key) (cond (same key s.key) (map (queue_posted key (s.place, Update s.posts)) qs) qs) ss ≡ map (queue_posted key (x.place, Update x.posts)) qs)
    go true is some more =
        let none : is_among key rest ≡ false = subst (λ (k : SubKey). is_among k rest ≡ false) (sym (same_is key s.key is)) apart.0 in (
          s,
          ap (λ (b : Bool). fold (numbering key) (cond b (map (queue_posted key (s.place, Update s.posts)) qs) qs) ss) is
              ∙ fold-none key (map (queue_posted key (s.place, Update s.posts)) qs) ss none,
        )
    go false is some more =
        let r = more some in
        (r.0, ap (λ (b : Bool). fold (numbering key) (cond b (map (queue_posted key (s.place, Update s.posts)) qs) qs) ss) is ∙ r.1)

step-number : (key : SubKey) (v : Stored) (vs : List (Queue Stored)) (j : Joined) → AreApart (keys_standing j) → is_among key (keys_standing j) ≡ true → InStep vs j.queues → InStep (map (queue_posted key v) vs) (with_number j key).queues
step-number key v vs j apart among step =
    let r = fold-one key j.queues j.standing apart among in
    subst (λ (l : List (Queue (ℕ × Cause))). InStep (map (queue_posted key v) vs) l) (sym r.1) (step-posted key v r.0.place r.0.posts vs j.queues step)

-- keys stay
pub keys-stay : (key : SubKey) (j : Joined) → keys_standing (with_number j key) ≡ keys_standing j
keys-stay key j = all j.standing
  where
    one : (s : Standing) (b : Bool) → (cond b (record s { posts = s.posts + 1 }) s).key ≡ s.key
    one s true = refl
    one s false = refl

    all : (ss : List Standing) → map (λ (s : Standing). s.key) (map (λ (s : Standing). cond (same key s.key) (record s { posts = s.posts + 1 }) s) ss) ≡ map (λ (s : Standing). s.key) ss
    all [] = refl
    all (s ∷ ss) =
        ap (λ (k : SubKey). k ∷ map (λ (x : Standing). x.key) (map (λ (x : Standing). cond (same key x.key) (record x { posts = x.posts + 1 }) x) ss)) (one s (same key s.key))
        ∙ ap (λ (l : List SubKey). s.key ∷ l) (all ss)

-- ---- all that a post concerns

abbrev AreStanding : List Subscription → Joined → Type 0
AreStanding ss j = (i : ℕ) (s : Subscription) → At ss i s → is_among (key_of s) (keys_standing j) ≡ true

step-all : (ss : List Subscription) (v : Stored) (vs : List (Queue Stored)) (j : Joined) → AreApart (keys_standing j) → AreStanding ss j → InStep vs j.queues
    → InStep (fold (λ (qs : List (Queue Stored)) (s : Subscription). map (queue_posted (key_of s) v) qs) vs ss) (fold with_number j (map key_of ss)).queues
step-all [] v vs j apart standing step = step
step-all (s ∷ ss) v vs j apart standing step =
    let keys : keys_standing (with_number j (key_of s)) ≡ keys_standing j = keys-stay (key_of s) j in
    step-all ss v (map (queue_posted (key_of s) v) vs) (with_number j (key_of s)) (subst (λ (l : List SubKey). AreApart l) (sym keys) apart)
    (λ i x at. subst (λ (l : List SubKey). is_among (key_of x) l ≡ true) (sym keys) (standing (suc i) x at))
    (step-number (key_of s) v vs j apart (standing 0 s refl) step)

among-at : (ss : List Subscription) (i : ℕ) (s : Subscription) → At ss i s → is_among (key_of s) (map key_of ss) ≡ true
among-at [] i s at = absurd (none_at i s at)
among-at (x ∷ ss) zero s at =
    ap (λ (z : Subscription). same (key_of s) (key_of z) || is_among (key_of s) (map key_of ss)) (some_is x s at)
    ∙ ap (λ (b : Bool). b || is_among (key_of s) (map key_of ss)) (same_itself (key_of s))
among-at (x ∷ ss) (suc i) s at = either (same (key_of s) (key_of x)) (is_among (key_of s) (map key_of ss)) (among-at ss i s at)
  where
    either : (a b : Bool) → b ≡ true → a || b ≡ true
    either true b e = refl
    either false b e = e

kept-at : (test : Subscription → Bool) (ss : List Subscription) (i : ℕ) (s : Subscription) → At (filter test ss) i s → In ss s
kept-at test [] i s at = absurd (none_at i s at)
kept-at test (x ∷ ss) i s at = go (test x) i at (λ k there. kept-at test ss k s there)
  where
    go : (b : Bool) (i : ℕ) → At (cond b (x ∷ filter test ss) (filter test ss)) i s → ((k : ℕ) → At (filter test ss) k s → In ss s) → In (x ∷ ss) s
    go true zero at rest = (0, at)
    go true (suc i) at rest = (let r = rest i at in (suc r.0, r.1))
    go false i at rest = (let r = rest i at in (suc r.0, r.1))

-- A post to a record, or a write, reaches the subscriptions of an end that it concerns: each gets
-- the value, and its number.
pub step-post : (name : List ℕ) (mask : ℕ) (v : Stored) (e : ServerEnd) (j : Joined) → map key_of e.subscriptions ≡ keys_standing j → AreApart (keys_standing j) → InStep e.queues j.queues
    → InStep (with_post name mask v e).queues (fold with_number j (keys_concerned name mask (Some (Open e)))).queues
step-post name mask v e j keys apart step =
    step-all (filter (concerns name mask) e.subscriptions) v e.queues j apart
    (λ i s at.
    let there = kept-at (concerns name mask) e.subscriptions i s at in
    subst (λ (l : List SubKey). is_among (key_of s) l ≡ true) keys (among-at e.subscriptions there.0 s there.1))
    step
