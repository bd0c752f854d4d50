-- Numbers of posts wait on circuits, subscription by subscription.
use Rattle.std.proofs.Common.{◌≡◌, ℕ, zero, suc, ◌+◌, ◌≤◌, ◌||◌, Bool, true, false, List, [], ◌∷◌, ◌++◌, length, Option, Some, None, refl, sym, ap, subst, ◌∙◌, arith}
use Rattle.std.specs.Prelude.{filter, if◌then◌else◌, map, option_to_list, slice_get, slice_set, take}
use Rattle.std.specs.List.{fold}
use Rattle.std.proofs.lemmas.List.{length-map, map-append}
use Rattle.ca_queue.specs.declared.entry.SubKey.{SubKey}
use Rattle.ca_queue.specs.Circuit.{AreInOne, queue_posted}
use Rattle.ca_queue.specs.Keys.{AreApart, is_among, same}
use Rattle.ca_queue.specs.Queue.{Queue, posted}
use Rattle.ca_queue.proofs.Circuits.{set-is-map}
use Rattle.ca_queue.proofs.Keys.{other_sym, same_itself}
use Rattle.ca_text.specs.Place.{At}
use Rattle.ca_text.proofs.Places.{some_is}
use Rattle.ca_model.specs.History.{Cause, Update}
use Rattle.ca_model.specs.Server.{Ended, Open, ServerCircuit, ServerEnd, Subscription, concerns, key_of}
use Rattle.ca_model.specs.ServerEvents.{keys_concerned, with_number}
use Rattle.ca_model.specs.World.{Joined, Standing}
use Rattle.ca_world_data.specs.Numbering.{AreAlike, IsAlike, keys_at, keys_on, keys_to, keys_within}

abbrev Q : Type 0
Q = Queue (ℕ × Cause)

-- ---- one number

abbrev counted : SubKey → Standing → Standing
counted key s = if same key s.key then record s { posts = s.posts + 1 } else s

abbrev waits : SubKey → List Q → Standing → List Q
waits key qs s = if same key s.key then map (queue_posted key (s.place, Update s.posts)) qs else qs

or-left : (a b : Bool) → a || b ≡ false → a ≡ false
or-left true b e = absurd cc
or-left false b e = refl

or-right : (a b : Bool) → a || b ≡ false → b ≡ false
or-right true b e = absurd cc
or-right false b e = e

-- none of these has the key
count-none : (key : SubKey) (ss : List Standing) → is_among key (map (λ (s : Standing). s.key) ss) ≡ false → map (counted key) ss ≡ ss
count-none key [] none = refl
count-none key (s ∷ ss) none =
    (λ i. (if or-left (same key s.key) (is_among key (map (λ (x : Standing). x.key) ss)) none i then record s { posts = s.posts + 1 } else s) ∷ count-none key ss (or-right (same key s.key) (is_among key (map (λ (x : Standing). x.key) ss)) none) i)

wait-none : (key : SubKey) (qs : List Q) (ss : List Standing) → is_among key (map (λ (s : Standing). s.key) ss) ≡ false → fold (waits key) qs ss ≡ qs
wait-none key qs [] none = refl
wait-none key qs (s ∷ ss) none =
    ap (λ (b : Bool). fold (waits key) (if b then map (queue_posted key (s.place, Update s.posts)) qs else qs) ss) (or-left (same key s.key) (is_among key (map (λ (x : Standing). x.key) ss)) none)
    ∙ wait-none key qs ss (or-right (same key s.key) (is_among key (map (λ (x : Standing). x.key) ss)) none)

-- a key that stands is another than one before it
apart-at : (key : SubKey) (ss : List Standing) (p : ℕ) (s : Standing) → is_among key (map (λ (x : Standing). x.key) ss) ≡ false → At ss p s → same key s.key ≡ false
apart-at key [] p s none at = absurd cc
apart-at key (x ∷ ss) zero s none at = ap (λ (z : Standing). same key z.key) (sym (some_is x s at)) ∙ or-left (same key x.key) (is_among key (map (λ (z : Standing). z.key) ss)) none
apart-at key (x ∷ ss) (suc p) s none at = apart-at key ss p s (or-right (same key x.key) (is_among key (map (λ (z : Standing). z.key) ss)) none) at

-- one has it
count-one : (ss : List Standing) (p : ℕ) (s : Standing) → AreApart (map (λ (x : Standing). x.key) ss) → At ss p s → map (counted s.key) ss ≡ slice_set ss p (record s { posts = s.posts + 1 })
count-one [] p s apart at = absurd cc
count-one (x ∷ ss) zero s apart at =
    let is : x ≡ s = some_is x s at in
    (λ i. counted s.key (is i) ∷ count-none s.key ss (ap (λ (z : Standing). is_among z.key (map (λ (x : Standing). x.key) ss)) (sym is) ∙ apart.0) i)
    ∙ (λ i. (if same_itself s.key i then record s { posts = s.posts + 1 } else s) ∷ ss)
count-one (x ∷ ss) (suc p) s apart at =
    let differs : same s.key x.key ≡ false = other_sym x.key s.key (apart-at x.key ss p s apart.0 at) in
    (λ i. (if differs i then record x { posts = x.posts + 1 } else x) ∷ count-one ss p s apart.1 at i)

wait-one : (qs : List Q) (ss : List Standing) (p : ℕ) (s : Standing) → AreApart (map (λ (x : Standing). x.key) ss) → At ss p s → fold (waits s.key) qs ss ≡ map (queue_posted s.key (s.place, Update s.posts)) qs
wait-one qs [] p s apart at = absurd cc
wait-one qs (x ∷ ss) zero s apart at =
    let is : x ≡ s = some_is x s at in
    (λ i. fold (waits s.key) (waits s.key qs (is i)) ss)
    ∙ ap (λ (b : Bool). fold (waits s.key) (if b then map (queue_posted s.key (s.place, Update s.posts)) qs else qs) ss) (same_itself s.key)
    ∙ wait-none s.key (map (queue_posted s.key (s.place, Update s.posts)) qs) ss (ap (λ (z : Standing). is_among z.key (map (λ (x : Standing). x.key) ss)) (sym is) ∙ apart.0)
wait-one qs (x ∷ ss) (suc p) s apart at =
    let differs : same s.key x.key ≡ false = other_sym x.key s.key (apart-at x.key ss p s apart.0 at) in
    ap (λ (b : Bool). fold (waits s.key) (if b then map (queue_posted s.key (x.place, Update x.posts)) qs else qs) ss) differs ∙ wait-one qs ss p s apart.1 at

-- in the one queue that has it
in-queue : (qs : List Q) (n : ℕ) (q : Q) (key : SubKey) (item : ℕ × Cause) → At qs n q → is_among key q.subscriptions ≡ true → AreInOne qs → map (queue_posted key item) qs ≡ slice_set qs n (posted key item q)
in-queue qs n q key item at among one =
    sym (set-is-map (queue_posted key item) qs n q at (λ m r there other. elsewhere r (is_among key r.subscriptions) refl (λ among_r. other (one m n key (r, there, among_r) (q, at, among)))))
    ∙ ap (λ (b : Bool). slice_set qs n (if b then posted key item q else q)) among
  where
    elsewhere : (r : Q) (b : Bool) → is_among key r.subscriptions ≡ b → (is_among key r.subscriptions ≡ true → ⊥) → queue_posted key item r ≡ r
    elsewhere r true is never = absurd (never is)
    elsewhere r false is never = ap (λ (b : Bool). if b then posted key item r else r) is

pub number-one : (j : Joined) (p n : ℕ) (s : Standing) (q : Q) → AreApart (keys_on j) → AreInOne j.queues → At j.standing p s → At j.queues n q → is_among s.key q.subscriptions ≡ true
    → record j { standing = slice_set j.standing p (record s { posts = s.posts + 1 }); queues = slice_set j.queues n (posted s.key (s.place, Update s.posts) q) } ≡ with_number j s.key
number-one j p n s q apart one at there among =
    (λ i. record j {
      standing = sym (count-one j.standing p s apart at) i;
      queues = sym (wait-one j.queues j.standing p s apart at ∙ in-queue j.queues n q s.key (s.place, Update s.posts) there among one) i;
    })

-- ---- what a number keeps

keys-stay : (key : SubKey) (j : Joined) → keys_on (with_number j key) ≡ keys_on j
keys-stay key j = all j.standing
  where
    one : (s : Standing) (b : Bool) → (if b then record s { posts = s.posts + 1 } else s).key ≡ s.key
    one s true = refl
    one s false = refl

    all : (ss : List Standing) → map (λ (s : Standing). s.key) (map (counted key) ss) ≡ map (λ (s : Standing). s.key) ss
    all [] = refl
    all (s ∷ ss) = (λ i. one s (same key s.key) i ∷ all ss i)

within-posted : (key : SubKey) (item : ℕ × Cause) (qs : List Q) → keys_within (map (queue_posted key item) qs) ≡ keys_within qs
within-posted key item [] = refl
within-posted key item (q ∷ qs) = (λ i. one (is_among key q.subscriptions) i ∷ within-posted key item qs i)
  where
    one : (b : Bool) → (if b then posted key item q else q).subscriptions ≡ q.subscriptions
    one true = refl
    one false = refl

within-stays : (key : SubKey) (qs : List Q) (ss : List Standing) → keys_within (fold (waits key) qs ss) ≡ keys_within qs
within-stays key qs [] = refl
within-stays key qs (s ∷ ss) = within-stays key (waits key qs s) ss ∙ one (same key s.key)
  where
    one : (b : Bool) → keys_within (if b then map (queue_posted key (s.place, Update s.posts)) qs else qs) ≡ keys_within qs
    one true = within-posted key (s.place, Update s.posts) qs
    one false = refl

-- what is alike stays so
alike-one : (e : ServerEnd) (j : Joined) (key : SubKey) → AreAlike e j → AreAlike e (with_number j key)
alike-one e j key a = record {
  keys = a.keys ∙ sym (keys-stay key j);
  apart = subst AreApart (sym (keys-stay key j)) a.apart;
  queues = within-stays key j.queues j.standing ∙ a.queues;
}

alike-all : (keys : List SubKey) (e : ServerEnd) (j : Joined) → AreAlike e j → AreAlike e (fold with_number j keys)
alike-all [] e j a = a
alike-all (key ∷ keys) e j a = alike-all keys e (with_number j key) (alike-one e j key a)

pub alike-still : (keys : List SubKey) (c : Option ServerCircuit) (j : Joined) → IsAlike c j → IsAlike c (fold with_number j keys)
alike-still keys (Some (Open e)) j a = alike-all keys e j a
alike-still keys (Some (Ended w left)) j a = tt
alike-still keys None j a = tt

pub same-server : (keys : List SubKey) (j : Joined) → (fold with_number j keys).at_server ≡ j.at_server
same-server [] j = refl
same-server (key ∷ keys) j = same-server keys (with_number j key)

-- ---- subscription by subscription

fold-append : (j : Joined) (xs ys : List SubKey) → fold with_number j (xs ++ ys) ≡ fold with_number (fold with_number j xs) ys
fold-append j [] ys = refl
fold-append j (x ∷ xs) ys = fold-append (with_number j x) xs ys

filter-append : {A : Type 0} (test : A → Bool) (xs ys : List A) → filter test (xs ++ ys) ≡ filter test xs ++ filter test ys
filter-append test [] ys = refl
filter-append {A} test (x ∷ xs) ys = go (test x) (filter-append test xs ys)
  where
    go : (b : Bool) → filter test (xs ++ ys) ≡ filter test xs ++ filter test ys → (if b then x ∷ filter test (xs ++ ys) else filter test (xs ++ ys)) ≡ (if b then x ∷ filter test xs else filter test xs) ++ filter test ys
    go true same = ap (λ (t : List A). x ∷ t) same
    go false same = same

take-more : {A : Type 0} (p : ℕ) (xs : List A) → take (suc p) xs ≡ take p xs ++ option_to_list (slice_get xs p)
take-more zero [] = refl
take-more zero (x ∷ xs) = refl
take-more (suc p) [] = refl
take-more (suc p) (x ∷ xs) = ap (λ (t : List _). x ∷ t) (take-more p xs)

take-all : {A : Type 0} (p : ℕ) (xs : List A) → length xs ≤ p → take p xs ≡ xs
take-all zero [] le = refl
take-all zero (x ∷ xs) le = absurd (omega (arith, le))
take-all (suc p) [] le = refl
take-all (suc p) (x ∷ xs) le = ap (λ (t : List _). x ∷ t) (take-all p xs (omega (arith, le)))

keys-more : (name : List ℕ) (mask p : ℕ) (c : Option ServerCircuit) → keys_to name mask (suc p) c ≡ keys_to name mask p c ++ keys_at name mask p c
keys-more name mask p (Some (Open e)) =
    ap (λ (t : List Subscription). map key_of (filter (concerns name mask) t)) (take-more p e.subscriptions)
    ∙ ap (map key_of) (filter-append (concerns name mask) (take p e.subscriptions) (option_to_list (slice_get e.subscriptions p)))
    ∙ map-append key_of (filter (concerns name mask) (take p e.subscriptions)) (filter (concerns name mask) (option_to_list (slice_get e.subscriptions p)))
keys-more name mask p (Some (Ended w left)) = refl
keys-more name mask p None = refl

pub keys-none : (name : List ℕ) (mask : ℕ) (c : Option ServerCircuit) → keys_to name mask 0 c ≡ []
keys-none name mask (Some (Open e)) = refl
keys-none name mask (Some (Ended w left)) = refl
keys-none name mask None = refl

pub numbers-none : (name : List ℕ) (mask : ℕ) (c : Option ServerCircuit) (j : Joined) → j ≡ fold with_number j (keys_to name mask 0 c)
numbers-none name mask c j = ap (fold with_number j) (sym (keys-none name mask c))

pub numbers-next : (name : List ℕ) (mask p : ℕ) (c : Option ServerCircuit) (j now new : Joined) → now ≡ fold with_number j (keys_to name mask p c) → new ≡ fold with_number now (keys_at name mask p c)
    → new ≡ fold with_number j (keys_to name mask (p + 1) c)
numbers-next name mask p c j now new was did =
    let e : suc p ≡ p + 1 = omega arith in
    did ∙ ap (λ (z : Joined). fold with_number z (keys_at name mask p c)) was ∙ sym (fold-append j (keys_to name mask p c) (keys_at name mask p c))
    ∙ ap (fold with_number j) (sym (keys-more name mask p c)) ∙ ap (λ (n : ℕ). fold with_number j (keys_to name mask n c)) e

-- all of them
keys-all : (name : List ℕ) (mask p : ℕ) (c : Option ServerCircuit) (j : Joined) → IsAlike c j → length j.standing ≤ p → keys_to name mask p c ≡ keys_concerned name mask c
keys-all name mask p (Some (Open e)) j a le =
    let few : length e.subscriptions ≡ length j.standing = sym (length-map e.subscriptions key_of) ∙ ap length a.keys ∙ length-map j.standing (λ (s : Standing). s.key) in
    ap (λ (t : List Subscription). map key_of (filter (concerns name mask) t)) (take-all p e.subscriptions (omega (arith, few, le)))
keys-all name mask p (Some (Ended w left)) j a le = refl
keys-all name mask p None j a le = refl

pub numbers-all : (name : List ℕ) (mask p : ℕ) (c : Option ServerCircuit) (j now : Joined) → IsAlike c j → length j.standing ≤ p → now ≡ fold with_number j (keys_to name mask p c) → now ≡ fold with_number j (keys_concerned name mask c)
numbers-all name mask p c j now a le was = was ∙ ap (fold with_number j) (keys-all name mask p c j a le)
