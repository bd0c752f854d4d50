-- The queues of a circuit, after each call.
use Rattle.std.proofs.Common.{◌≡◌, ℕ, zero, suc, ◌+◌, ◌<◌, ◌≤◌, ◌⊎◌, ◌||◌, inl, inr, Bool, true, false, not, cond, List, [], ◌∷◌, ◌++◌, length, map, max, take, drop, get_or, Option, None, refl, sym, ap, ◌∙◌, subst, arith, add-one}
use Rattle.std.specs.List.{filter, fold}
use Rattle.std.specs.Prelude.{replicate, slice_set}
use Rattle.ca_text.specs.Limits.{queue_subscriptions}
use Rattle.ca_text.specs.declared.refusal.Refusal.{Refusal}
use Rattle.ca_text.specs.declared.refusal.Refusal.TheVariants as refusal
use Rattle.std.proofs.Math.Nat.{eq-or-lt_of_le}
use Rattle.std.proofs.lemmas.Bool.{both_ways, cases_Bool, or_parts, or_right}
use Rattle.std.proofs.lemmas.List.{length-map}
use Rattle.std.proofs.lemmas.Option.{slice_get-get_or}
use Rattle.ca_text.specs.Place.{At}
use Rattle.ca_text.proofs.Places.{At-map, At-mapped, At-one, At-set, At-within}
use Rattle.ca_queue.specs.declared.entry.SubKey.{SubKey}
use Rattle.ca_queue.specs.Keys.{same, is_among}
use Rattle.ca_queue.specs.Queue.{Queue, Refuses, added, cancelled, no_queue, posted, switched, with_front_taken}
use Rattle.ca_queue.specs.Circuit.{AreIdleBehind, AreInOne, HasAt, HasNone, RestBefore, queue_posted, queue_without, without_each}
use Rattle.ca_queue.specs.Waiting.{after_take, front, is_of, may_take, taken}
use Rattle.ca_queue.proofs.Counts.{map_step}
use Rattle.ca_queue.proofs.Keys.{among_push, among_without, none_left, same_is, same_itself}

-- ---- lists

-- an index is before a place or not
less-or : (i n : ℕ) → (i < n) ⊎ (n ≤ i)
less-or i zero = inr (omega arith)
less-or zero (suc n) = inl (omega arith)
less-or (suc i) (suc n) = elim (less-or i n) [ inl lt ↦ inl (omega (arith, lt)) | inr le ↦ inr (omega (arith, le)) ]

pub set-map : {A B : Type 0} (f : A → B) (xs : List A) (i : ℕ) (y : A) → map f (slice_set xs i y) ≡ slice_set (map f xs) i (f y)
set-map f [] i y = refl
set-map f (x ∷ xs) zero y = refl
set-map f (x ∷ xs) (suc i) y = ap (λ (t : List _). f x ∷ t) (set-map f xs i y)

pub set-same : {A : Type 0} (xs : List A) (i : ℕ) (x : A) → At xs i x → slice_set xs i x ≡ xs
set-same [] i x h = refl
set-same (y ∷ xs) zero x h = ap (λ (z : _). z ∷ xs) (sym (At-one (y ∷ xs) zero y x refl h))
set-same (y ∷ xs) (suc i) x h = ap (λ (t : List _). y ∷ t) (set-same xs i x h)

pub set-twice : {A : Type 0} (xs : List A) (i : ℕ) (x y : A) → slice_set (slice_set xs i x) i y ≡ slice_set xs i y
set-twice [] i x y = refl
set-twice (z ∷ xs) zero x y = refl
set-twice (z ∷ xs) (suc i) x y = ap (λ (t : List _). z ∷ t) (set-twice xs i x y)

-- a map that does nothing
pub map-same : {A : Type 0} (f : A → A) (xs : List A) → ((j : ℕ) (y : A) → At xs j y → f y ≡ y) → xs ≡ map f xs
map-same f [] all = refl
map-same f (z ∷ xs) all = λ t. (sym (all zero z refl) t) ∷ (map-same f xs (λ j y at. all (suc j) y at) t)

-- a write is a map if the map does nothing at the other places
pub set-is-map : {A : Type 0} (f : A → A) (xs : List A) (i : ℕ) (x : A) → At xs i x → ((j : ℕ) (y : A) → At xs j y → (j ≡ i → ⊥) → f y ≡ y) → slice_set xs i (f x) ≡ map f xs
set-is-map f [] i x h others = absurd cc
set-is-map f (z ∷ xs) zero x h others =
    λ t. (sym (ap f (At-one (z ∷ xs) zero z x refl h)) t) ∷ (map-same f xs (λ j y at. others (suc j) y at (λ e. omega arith)) t)
set-is-map f (z ∷ xs) (suc i) x h others =
    λ t. (sym (others zero z refl (λ e. omega arith)) t) ∷ (set-is-map f xs i x h (λ j y at other. others (suc j) y at (λ e. other (let d : suc j ≡ suc i = e in omega arith))) t)

-- what an index gave is there
pub found : {A : Type 0} (xs : List A) (k : ℕ) (x : A) → k < length xs → x ≡ get_or xs k x → At xs k x
found xs k x lt e = subst (λ (z : _). At xs k z) (sym e) (slice_get-get_or xs k x lt)

pub within-map : {A B : Type 0} (f : A → B) (xs : List A) (k : ℕ) (y : B) → At (map f xs) k y → k < length xs
within-map f xs k y h = let lt = At-within (map f xs) k y h in omega (arith, lt, length-map xs f)

-- leaving out once more does nothing
pub filter-twice : {A : Type 0} (p : A → Bool) (xs : List A) → filter p (filter p xs) ≡ filter p xs
filter-twice p [] = refl
filter-twice p (x ∷ xs) =
    elim (cases_Bool (p x)) [
      | inl stays ↦ rw (stays, stays) (ap (λ (t : List _). x ∷ t) (filter-twice p xs))
      | inr goes ↦ rw goes (filter-twice p xs)
    ]

-- what is left of a list was there
pub among-fewer : (k key : SubKey) (keys : List SubKey) → is_among k (filter (λ s. not (same key s)) keys) ≡ true → is_among k keys ≡ true
among-fewer k key keys some =
    elim (cases_Bool (same key k)) [
      | inl is ↦ absurd (both_ways _ (subst (λ (s : SubKey). is_among s (filter (λ r. not (same key r)) keys) ≡ false) (same_is key k is) (none_left key keys)) some)
      | inr other ↦ sym (among_without k key keys other) ∙ some
    ]

module _ {E : Type 0} where
  -- ---- one subscription

  cancelled-twice : (key : SubKey) (q : Queue E) → cancelled key (cancelled key q) ≡ cancelled key q
  cancelled-twice key q =
      λ t. record {
        waiting = filter-twice (λ w. not (is_of key w)) q.waiting t;
        subscriptions = filter-twice (λ s. not (same key s)) q.subscriptions t;
        events_on = q.events_on;
      }

  -- what a queue without one subscription does at each key
  abbrev step : SubKey → Queue E → SubKey → Queue E
  step key r k = cond (same key k) (cancelled k r) r

  none-without : (key : SubKey) (keys : List SubKey) (q : Queue E) → is_among key keys ≡ false → fold (step key) q keys ≡ q
  none-without key [] q none = refl
  none-without key (k ∷ keys) q none =
      let parts = or_parts (same key k) (is_among key keys) none in
      let e : step key q k ≡ q = rw parts.0 refl in
      ap (λ (r : Queue E). fold (step key) r keys) e ∙ none-without key keys q parts.1

  step-after : (key k : SubKey) (q : Queue E) → step key (cancelled key q) k ≡ cancelled key q
  step-after key k q =
      elim (cases_Bool (same key k)) [
        | inl is ↦ let e : step key (cancelled key q) k ≡ cancelled k (cancelled key q) = rw is refl in
            e ∙ (ap (λ (s : SubKey). cancelled s (cancelled key q)) (sym (same_is key k is)) ∙ cancelled-twice key q)
        | inr other ↦ rw other refl
      ]

  more-without : (key : SubKey) (keys : List SubKey) (q : Queue E) → fold (step key) (cancelled key q) keys ≡ cancelled key q
  more-without key [] q = refl
  more-without key (k ∷ keys) q = ap (λ (r : Queue E). fold (step key) r keys) (step-after key k q) ∙ more-without key keys q

  one-without : (key : SubKey) (keys : List SubKey) (q : Queue E) → is_among key keys ≡ true → fold (step key) q keys ≡ cancelled key q
  one-without key [] q some = absurd cc
  one-without key (k ∷ keys) q some =
      elim (cases_Bool (same key k)) [
        | inl is ↦
            let e : step key q k ≡ cancelled k q = rw is refl in
            ap (λ (r : Queue E). fold (step key) r keys) (e ∙ ap (λ (s : SubKey). cancelled s q) (sym (same_is key k is))) ∙ more-without key keys q
        | inr other ↦
            let e : step key q k ≡ q = rw other refl in
            let rest : is_among key keys ≡ true = sym (ap (λ (b : Bool). b || is_among key keys) other) ∙ some in
            ap (λ (r : Queue E). fold (step key) r keys) e ∙ one-without key keys q rest
      ]

  -- ---- the queues, one of which was changed

  pub one-set : (qs : List (Queue E)) (place : ℕ) (q r : Queue E) → AreInOne qs → At qs place q
      → ((k : SubKey) → is_among k r.subscriptions ≡ true → (is_among k q.subscriptions ≡ true) ⊎ HasNone qs k) → AreInOne (slice_set qs place r)
  one-set qs place q r once at from i j k (a, at-a, in-a) (b, at-b, in-b) =
      elim (At-set qs place r i a at-a) [
        | inl here ↦
            elim (At-set qs place r j b at-b) [
              | inl there ↦ here.0 ∙ sym there.0
              | inr there ↦
                  elim (from k (subst (λ (z : Queue E). is_among k z.subscriptions ≡ true) here.1 in-a)) [
                    | inl was ↦ here.0 ∙ once place j k (q, at, was) (b, there.0, in-b)
                    | inr none ↦ absurd (both_ways _ (none j b there.0) in-b)
                  ]
            ]
        | inr here ↦
            elim (At-set qs place r j b at-b) [
              | inl there ↦
                  elim (from k (subst (λ (z : Queue E). is_among k z.subscriptions ≡ true) there.1 in-b)) [
                    | inl was ↦ once i place k (a, here.0, in-a) (q, at, was) ∙ sym there.0
                    | inr none ↦ absurd (both_ways _ (none i a here.0) in-a)
                  ]
              | inr there ↦ once i j k (a, here.0, in-a) (b, there.0, in-b)
            ]
      ]

  pub post-set : (qs : List (Queue E)) (place : ℕ) (q : Queue E) (key : SubKey) (entry : E) → AreInOne qs → HasAt qs place key → At qs place q
      → slice_set qs place (posted key entry q) ≡ map (queue_posted key entry) qs
  post-set qs place q key entry once (a, at-a, in-a) at =
      let in-q : is_among key q.subscriptions ≡ true = subst (λ (z : Queue E). is_among key z.subscriptions ≡ true) (At-one qs place a q at-a at) in-a in
      let e : queue_posted key entry q ≡ posted key entry q = rw in-q refl in
      ap (λ (z : Queue E). slice_set qs place z) (sym e)
      ∙ set-is-map (queue_posted key entry) qs place q at (λ j r at-r other.
      elim (cases_Bool (is_among key r.subscriptions)) [
        | inl there ↦ absurd (other (once j place key (r, at-r, there) (q, at, in-q)))
        | inr none ↦ rw none refl
      ])

  pub cancel-set : (qs : List (Queue E)) (place : ℕ) (q : Queue E) (key : SubKey) → AreInOne qs → HasAt qs place key → At qs place q
      → slice_set qs place (cancelled key q) ≡ without_each (same key) qs
  cancel-set qs place q key once (a, at-a, in-a) at =
      let in-q : is_among key q.subscriptions ≡ true = subst (λ (z : Queue E). is_among key z.subscriptions ≡ true) (At-one qs place a q at-a at) in-a in
      ap (λ (z : Queue E). slice_set qs place z) (sym (one-without key q.subscriptions q in-q))
      ∙ set-is-map (queue_without (same key)) qs place q at (λ j r at-r other.
      elim (cases_Bool (is_among key r.subscriptions)) [
        | inl there ↦ absurd (other (once j place key (r, at-r, there) (q, at, in-q)))
        | inr none ↦ none-without key r.subscriptions r none
      ])

  -- ---- the queues after the last in use

  pub idle-none : (n i : ℕ) (q : Queue E) → At (replicate n (no_queue {E = E})) i q → q.waiting ≡ []
  idle-none zero i q at = absurd cc
  idle-none (suc n) zero q at = ap (λ (x : Queue E). x.waiting) (sym (At-one (replicate (suc n) (no_queue {E = E})) zero no_queue q refl at))
  idle-none (suc n) (suc i) q at = idle-none n i q at

  -- one that is not after it was changed
  pub idle-set : (n m place : ℕ) (qs : List (Queue E)) (r : Queue E) → AreIdleBehind n qs → m ≡ max n place → AreIdleBehind m (slice_set qs place r)
  idle-set n m place qs r idle later i q at lt =
      elim (At-set qs place r i q at) [
        | inl here ↦ absurd (behind place i m here.0 (omega (arith, later)) lt)
        | inr there ↦ idle i q there.0 (omega (arith, later, lt))
      ]
    where
      behind : (k i m : ℕ) → i ≡ k → k ≤ m → m < i → ⊥
      behind k i m is le lt = omega (arith, is, le, lt)

  pub idle-posted : (n m place : ℕ) (qs : List (Queue E)) (key : SubKey) (entry : E) → AreInOne qs → HasAt qs place key → AreIdleBehind n qs → m ≡ max n place → AreIdleBehind m (map (queue_posted key entry) qs)
  idle-posted n m place qs key entry once has idle later =
      subst (λ (z : List (Queue E)). AreIdleBehind m z) (post-set qs place has.0 key entry once has has.1) (idle-set n m place qs (posted key entry has.0) idle later)

  pub idle-cancelled : (n m place : ℕ) (qs : List (Queue E)) (key : SubKey) → AreInOne qs → HasAt qs place key → AreIdleBehind n qs → m ≡ max n place → AreIdleBehind m (without_each (same key) qs)
  idle-cancelled n m place qs key once has idle later =
      subst (λ (z : List (Queue E)). AreIdleBehind m z) (cancel-set qs place has.0 key once has has.1) (idle-set n m place qs (cancelled key has.0) idle later)

  pub idle-switched : (n : ℕ) (on : Bool) (qs : List (Queue E)) → AreIdleBehind n qs → AreIdleBehind n (map (switched on) qs)
  idle-switched n on qs idle i q at lt = (let m = At-mapped (switched on) qs i q at in ap (λ (x : Queue E). x.waiting) m.2 ∙ idle i m.0 m.1 lt)

  -- nothing may be taken where nothing waits
  pub idle-rests : (q : Queue E) → q.waiting ≡ [] → taken q.events_on q.waiting ≡ None
  idle-rests q none = subst (λ (ws : List (SubKey × E)). taken q.events_on ws ≡ None) (sym none) (by q.events_on)
    where
      by : (on : Bool) → (let ws : List (SubKey × E) = [] in let nothing : Option (SubKey × E) = None in taken on ws ≡ nothing)
      by true = refl
      by false = refl

  -- where all before a place rest, and it is after the last in use, all rest
  pub idle-all : (last place : ℕ) (qs : List (Queue E)) → AreIdleBehind last qs → last < place → RestBefore qs place → RestBefore qs (length qs)
  idle-all last place qs idle behind rest i r within at =
      elim (less-or i place) [
        | inl lt ↦ rest i r lt at
        | inr le ↦ idle-rests r (idle i r at (omega (arith, le, behind)))
      ]

  -- nothing was taken where nothing may be
  front-none : (ws : List (SubKey × E)) → front ws ≡ None → drop 1 ws ≡ ws
  front-none [] none = refl
  front-none (w ∷ ws) none = absurd cc

  pub none-taken : (q : Queue E) → taken q.events_on q.waiting ≡ None → with_front_taken q ≡ q
  none-taken q none =
      let left : after_take q.events_on q.waiting ≡ q.waiting =
      elim (cases_Bool (may_take q.events_on q.waiting)) [
        | inl may ↦
            let e : taken q.events_on q.waiting ≡ front q.waiting = rw may refl in
            let d : after_take q.events_on q.waiting ≡ drop 1 q.waiting = rw may refl in
            d ∙ front-none q.waiting (sym e ∙ none)
        | inr may_not ↦ rw may_not refl
      ] in
      λ t. record { waiting = left t; subscriptions = q.subscriptions; events_on = q.events_on }

  pub switch-step : (on : Bool) (qs : List (Queue E)) (i : ℕ) (d : Queue E) → i < length qs
      → slice_set (map (switched on) (take i qs) ++ drop i qs) i (switched on (get_or (map (switched on) (take i qs) ++ drop i qs) i d))
      ≡ map (switched on) (take (i + 1) qs) ++ drop (i + 1) qs
  switch-step on qs i d less = rw add-one (map_step (switched on) qs i d less)

pub set-here : {A : Type 0} (xs : List A) (i : ℕ) (y : A) → i < length xs → At (slice_set xs i y) i y
set-here [] i y lt = absurd (omega arith)
set-here (x ∷ xs) zero y lt = refl
set-here (x ∷ xs) (suc i) y lt = set-here xs i y (omega arith)

pub length-set : {A : Type 0} (xs : List A) (i : ℕ) (y : A) → length (slice_set xs i y) ≡ length xs
length-set [] i y = refl
length-set (x ∷ xs) zero y = refl
length-set (x ∷ xs) (suc i) y = ap (λ (n : ℕ). suc n) (length-set xs i y)

-- ---- the same of what keeps the queues

module _ {E Q : Type 0} (contents : Q → Queue E) where
  -- what an index gave
  pub at-index : (items : List Q) (place : ℕ) (x : Q) → place < length items → x ≡ get_or items place x → At (map contents items) place (contents x)
  at-index items place x lt is = At-map contents items place x (found items place x lt is)

  -- the queue at a place became another, of no other subscriptions
  pub kept-in-one : (items : List Q) (place : ℕ) (x new : Q) → AreInOne (map contents items) → At (map contents items) place (contents x)
      → ((k : SubKey) → is_among k (contents new).subscriptions ≡ true → is_among k (contents x).subscriptions ≡ true) → AreInOne (map contents (slice_set items place new))
  kept-in-one items place x new once at from =
      subst (λ (qs : List (Queue E)). AreInOne qs) (sym (set-map contents items place new))
      (one-set (map contents items) place (contents x) (contents new) once at (λ k some. inl (from k some)))

  -- it became this
  pub set-as : (items : List Q) (place : ℕ) (new : Q) (q : Queue E) → contents new ≡ q → map contents (slice_set items place new) ≡ slice_set (map contents items) place q
  set-as items place new q is = set-map contents items place new ∙ ap (λ (z : Queue E). slice_set (map contents items) place z) is

  -- it is as before
  pub set-as-before : (items : List Q) (place : ℕ) (x new : Q) → At (map contents items) place (contents x) → contents new ≡ contents x → map contents (slice_set items place new) ≡ map contents items
  set-as-before items place x new at is = set-as items place new (contents x) is ∙ set-same (map contents items) place (contents x) at

  -- ---- an entry was put, a subscription was taken out

  pub posts-as : (items : List Q) (place : ℕ) (x new : Q) (key : SubKey) (entry : E) → AreInOne (map contents items) → HasAt (map contents items) place key
      → x ≡ get_or items place x → contents new ≡ posted key entry (contents x)
      → AreInOne (map contents (slice_set items place new)) × (map contents (slice_set items place new) ≡ map (queue_posted key entry) (map contents items))
  posts-as items place x new key entry once has is posts =
      let at = at-index items place x (within-map contents items place has.0 has.1) is in (
        kept-in-one items place x new once at (λ k some. subst (λ (q : Queue E). is_among k q.subscriptions ≡ true) posts some),
        set-as items place new _ posts ∙ post-set (map contents items) place (contents x) key entry once has at,
      )

  pub cancels-as : (items : List Q) (place : ℕ) (x new : Q) (key : SubKey) → AreInOne (map contents items) → HasAt (map contents items) place key
      → x ≡ get_or items place x → contents new ≡ cancelled key (contents x)
      → AreInOne (map contents (slice_set items place new)) × (map contents (slice_set items place new) ≡ without_each (same key) (map contents items))
  cancels-as items place x new key once has is cancels =
      let at = at-index items place x (within-map contents items place has.0 has.1) is in (
        kept-in-one items place x new once at (λ k some. among-fewer k key (contents x).subscriptions (subst (λ (q : Queue E). is_among k q.subscriptions ≡ true) cancels some)),
        set-as items place new _ cancels ∙ cancel-set (map contents items) place (contents x) key once has at,
      )

  -- ---- a subscription was added, and its first entry put

  pub added-has : (x a y : Q) (key : SubKey) → contents a ≡ added key (contents x) → y ≡ a → is_among key (contents y).subscriptions ≡ true
  added-has x a y key adds is =
      let among : is_among key ((contents x).subscriptions ++ key ∷ []) ≡ true = among_push key key (contents x).subscriptions ∙ or_right (is_among key (contents x).subscriptions) (same key key) (same_itself key) in
      subst (λ (z : Q). is_among key (contents z).subscriptions ≡ true) (sym is) (subst (λ (q : Queue E). is_among key q.subscriptions ≡ true) (sym adds) among)

  pub index-set : (items : List Q) (place : ℕ) (a y : Q) → place < length items → y ≡ get_or (slice_set items place a) place y → y ≡ a
  index-set items place a y lt is =
      At-one (slice_set items place a) place y a (found (slice_set items place a) place y (let l = length-set items place a in omega (arith, l)) is) (set-here items place a lt)

  pub begins-as : (items : List Q) (place : ℕ) (x a y b : Q) (key : SubKey) (entry : E) → AreInOne (map contents items) → HasNone (map contents items) key
      → place < length items → x ≡ get_or items place x → contents a ≡ added key (contents x) → y ≡ a → contents b ≡ posted key entry (contents y)
      → AreInOne (map contents (slice_set (slice_set items place a) place b))
      × (map contents (slice_set (slice_set items place a) place b) ≡ slice_set (map contents items) place (posted key entry (added key (contents x))))
  begins-as items place x a y b key entry once none lt is adds same-as posts =
      let at = at-index items place x lt is in
      let q : contents b ≡ posted key entry (added key (contents x)) = posts ∙ ap (λ (z : Queue E). posted key entry z) (ap contents same-as ∙ adds) in
      let whole : map contents (slice_set (slice_set items place a) place b) ≡ slice_set (map contents items) place (posted key entry (added key (contents x))) =
      ap (map contents) (set-twice items place a b) ∙ set-as items place b _ q in (
        subst (λ (qs : List (Queue E)). AreInOne qs) (sym whole)
            (one-set (map contents items) place (contents x) (posted key entry (added key (contents x))) once at (λ k some.
            elim (cases_Bool (is_among k (contents x).subscriptions)) [
              | inl was ↦ inl was
              | inr new ↦
                  let e : is_among k ((contents x).subscriptions ++ key ∷ []) ≡ (is_among k (contents x).subscriptions || same k key) = among_push k key (contents x).subscriptions in
                  let it : same k key ≡ true = sym (ap (λ (t : Bool). t || same k key) new) ∙ (sym e ∙ some) in
                  inr (subst (λ (s : SubKey). HasNone (map contents items) s) (sym (same_is k key it)) none)
            ])),
        whole,
      )

  -- ---- while a loop goes over the queues, and they are as they were

  pub index-within : (items was : List Q) (now : List (Queue E)) (place len : ℕ) → map contents items ≡ now → map contents was ≡ now → len ≡ length was → place < len → place < length items
  index-within items was now place len here there is lt =
      let e : length (map contents items) ≡ length (map contents was) = ap length (here ∙ sym there) in
      omega (arith, e, length-map items contents, length-map was contents, is, lt)

  pub all-before : (was : List Q) (now : List (Queue E)) (place len : ℕ) → map contents was ≡ now → len ≡ length was → len ≤ place → (i : ℕ) (q : Queue E) → At now i q → i < place
  all-before was now place len there is le i q at =
      let lt = At-within now i q at in
      let e : length (map contents was) ≡ length now = ap length there in
      omega (arith, lt, e, length-map was contents, is, le)

  -- what an index gave, of queues that are as they were
  pub at-now : (items : List Q) (now : List (Queue E)) (place : ℕ) (x : Q) → map contents items ≡ now → place < length items → x ≡ get_or items place x → At now place (contents x)
  at-now items now place x here lt is = subst (λ (qs : List (Queue E)). At qs place (contents x)) here (at-index items place x lt is)

take-none : {A : Type 0} (f : A → A) (n : ℕ) → map f (take n []) ++ drop n [] ≡ []
take-none f zero = refl
take-none f (suc n) = refl

pub get-at : {A : Type 0} (xs : List A) (k : ℕ) (x d : A) → At xs k x → x ≡ get_or xs k d
get-at [] k x d h = absurd cc
get-at (z ∷ xs) zero x d h = sym (At-one (z ∷ xs) zero z x refl h)
get-at (z ∷ xs) (suc k) x d h = get-at xs k x d h

pub At-replicate : {A : Type 0} (n : ℕ) (x : A) (i : ℕ) (y : A) → At (replicate n x) i y → y ≡ x
At-replicate zero x i y h = absurd cc
At-replicate (suc n) x zero y h = sym (At-one (replicate (suc n) x) zero x y refl h)
At-replicate (suc n) x (suc i) y h = At-replicate n x i y h

pub replicate-more : {A : Type 0} (n : ℕ) (x : A) → replicate n x ++ x ∷ [] ≡ replicate (n + 1) x
replicate-more zero x = refl
replicate-more (suc n) x = (let e : suc n + 1 ≡ suc (n + 1) = omega arith in rw e (ap (λ (t : List _). x ∷ t) (replicate-more n x)))

-- one more place was looked at
pub more-before : {A : Type 0} (P : A → Type 0) (xs : List A) (place : ℕ) (x : A) → At xs place x → P x → ((i : ℕ) (y : A) → i < place → At xs i y → P y)
    → (i : ℕ) (y : A) → i < place + 1 → At xs i y → P y
more-before P xs place x at here before i y lt at-y =
    elim (eq-or-lt_of_le (let le : i ≤ place = omega (arith, lt) in le)) [
      | inl same ↦ subst P (At-one xs place x y at (subst (λ (k : ℕ). At xs k y) same at-y)) here
      | inr less ↦ before i y less at-y
    ]

module _ {E : Type 0} where
  -- with room a refusal says that memory lacked for a first subscription
  pub refused-lacks : (q : Queue E) (r : Refusal) → Refuses q r → length q.subscriptions < queue_subscriptions → q.subscriptions ≡ []
  refused-lacks q refusal.TooManySubscriptions h room = absurd (omega (arith, h, room))
  refused-lacks q refusal.OutOfMemory h room = h
  refused-lacks q _ h room = absurd h

  pub none-anywhere : (n : ℕ) → AreInOne (replicate n (no_queue {E = E}))
  none-anywhere n i j key (q, at, some) there = absurd (both_ways _ (subst (λ (z : Queue E). is_among key z.subscriptions ≡ false) (sym (At-replicate n no_queue i q at)) refl) some)

module _ {E : Type 0} where
  switched-keys : (on : Bool) (qs : List (Queue E)) (i : ℕ) (q : Queue E) → At (map (switched on) qs) i q → (r : Queue E) × At qs i r × (q.subscriptions ≡ r.subscriptions)
  switched-keys on qs i q at = let r = At-mapped (switched on) qs i q at in (r.0, r.1, ap (λ (z : Queue E). z.subscriptions) r.2)

  pub switched-in-one : (on : Bool) (qs : List (Queue E)) → AreInOne qs → AreInOne (map (switched on) qs)
  switched-in-one on qs once i j key (q, at-q, in-q) (r, at-r, in-r) =
      let a = switched-keys on qs i q at-q in
      let b = switched-keys on qs j r at-r in
      once i j key (a.0, a.1, subst (λ (ks : List SubKey). is_among key ks ≡ true) a.2 in-q) (b.0, b.1, subst (λ (ks : List SubKey). is_among key ks ≡ true) b.2 in-r)

  pub length-switching : (on : Bool) (qs : List (Queue E)) (n : ℕ) → length (map (switched on) (take n qs) ++ drop n qs) ≡ length qs
  length-switching on [] n = ap length (take-none (switched on) n)
  length-switching on (q ∷ qs) zero = refl
  length-switching on (q ∷ qs) (suc n) = ap (λ (k : ℕ). suc k) (length-switching on qs n)

  pub all-switched : (on : Bool) (qs : List (Queue E)) (n : ℕ) → length qs ≤ n → map (switched on) (take n qs) ++ drop n qs ≡ map (switched on) qs
  all-switched on [] n le = take-none (switched on) n
  all-switched on (q ∷ qs) zero le = absurd (omega (arith, le))
  all-switched on (q ∷ qs) (suc n) le = ap (λ (t : List _). switched on q ∷ t) (all-switched on qs n (omega (arith, le)))

module _ {E Q : Type 0} (contents : Q → Queue E) where
  -- ---- events are turned on or off, queue by queue

  pub switches-more : (items : List Q) (now : List (Queue E)) (place : ℕ) (x new : Q) (on : Bool) → map contents items ≡ map (switched on) (take place now) ++ drop place now
      → place < length now → place < length items → x ≡ get_or items place x → contents new ≡ switched on (contents x)
      → map contents (slice_set items place new) ≡ map (switched on) (take (place + 1) now) ++ drop (place + 1) now
  switches-more items now place x new on here lt within is switches =
      let at = at-index contents items place x within is in
      let there : At (map (switched on) (take place now) ++ drop place now) place (contents x) = subst (λ (qs : List (Queue E)). At qs place (contents x)) here at in
      let got : contents x ≡ get_or (map (switched on) (take place now) ++ drop place now) place (contents x) = get-at (map (switched on) (take place now) ++ drop place now) place (contents x) (contents x) there in
      set-as contents items place new _ switches
      ∙ (ap (λ (qs : List (Queue E)). slice_set qs place (switched on (contents x))) here
      ∙ (ap (λ (z : Queue E). slice_set (map (switched on) (take place now) ++ drop place now) place (switched on z)) got
      ∙ switch-step on now place (contents x) lt))
