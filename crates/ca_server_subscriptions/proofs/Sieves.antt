-- A queue without the subscriptions that a test names: what is left of both of its lists.
use Rattle.std.proofs.Common.{◌≡◌, ℕ, suc, ◌||◌, ◌&&◌, inl, inr, Bool, true, false, not, cond, List, [], ◌∷◌, filter, refl, sym, ap, ◌∙◌, subst}
use Rattle.std.specs.List.{fold}
use Rattle.std.proofs.lemmas.Bool.{both_ways, cases_Bool}
use Rattle.ca_text.specs.Place.{At}
use Rattle.ca_queue.specs.declared.entry.SubKey.{SubKey}
use Rattle.ca_queue.specs.Circuit.{queue_without, without_each}
use Rattle.ca_queue.specs.Keys.{is_among, same}
use Rattle.ca_queue.specs.Queue.{Queue, cancelled}
use Rattle.ca_queue.proofs.Keys.{same_is, same_itself}

abbrev pub Test : Type 0
Test = SubKey → Bool

-- ---- lists

pub filter-both : {A : Type 0} (f g : A → Bool) (xs : List A) → filter (λ (x : A). not (g x)) (filter (λ (x : A). not (f x)) xs) ≡ filter (λ (x : A). not (f x || g x)) xs
filter-both f g [] = refl
filter-both f g (x ∷ xs) =
    elim (cases_Bool (f x)) [
      | inl out ↦ rw out (filter-both f g xs)
      | inr stays ↦ elim (cases_Bool (g x)) [
        | inl out ↦ rw (stays, out) (filter-both f g xs)
        | inr both ↦ rw (stays, both) (ap (λ (ys : List _). x ∷ ys) (filter-both f g xs))
      ]
    ]

-- tests that agree on all of a list keep the same of it
pub filter-on : {A : Type 0} (f g : A → Bool) (xs : List A) → ((i : ℕ) (x : A) → At xs i x → f x ≡ g x) → filter f xs ≡ filter g xs
filter-on f g [] same = refl
filter-on f g (x ∷ xs) same =
    let rest = filter-on f g xs (λ i y at. same (suc i) y at) in
    ap (λ (b : Bool). cond b (x ∷ filter f xs) (filter f xs)) (same 0 x refl) ∙ ap (λ (ys : List _). cond (g x) (x ∷ ys) ys) rest

pub filter-all : {A : Type 0} (f : A → Bool) (xs : List A) → ((i : ℕ) (x : A) → At xs i x → f x ≡ true) → filter f xs ≡ xs
filter-all f [] all = refl
filter-all f (x ∷ xs) all =
    ap (λ (b : Bool). cond b (x ∷ filter f xs) (filter f xs)) (all 0 x refl) ∙ ap (λ (ys : List _). x ∷ ys) (filter-all f xs (λ i y at. all (suc i) y at))

among-step : (t : Test) (k x : SubKey) (keys : List SubKey) → is_among k (filter (λ (y : SubKey). not (t y)) keys) ≡ (is_among k keys && not (t k))
    → (a b : Bool) → t x ≡ a → same k x ≡ b → is_among k (filter (λ (y : SubKey). not (t y)) (x ∷ keys)) ≡ (is_among k (x ∷ keys) && not (t k))
among-step t k x keys rest true true gone is =
    let e : t k ≡ true = ap t (same_is k x is) ∙ gone in
    let none : (is_among k keys && not (t k)) ≡ not (t k) = rw e (nothing (is_among k keys)) in
    rw (gone, is) (rest ∙ none)
  where
    nothing : (b : Bool) → (b && false) ≡ false
    nothing true = refl
    nothing false = refl
among-step t k x keys rest true false gone is = rw (gone, is) rest
among-step t k x keys rest false true gone is = (let e : t k ≡ false = ap t (same_is k x is) ∙ gone in rw (gone, is, e) refl)
among-step t k x keys rest false false gone is = rw (gone, is) rest

pub among-filter : (t : Test) (k : SubKey) (keys : List SubKey) → is_among k (filter (λ (x : SubKey). not (t x)) keys) ≡ (is_among k keys && not (t k))
among-filter t k [] = refl
among-filter t k (x ∷ keys) = among-step t k x keys (among-filter t k keys) (t x) (same k x) refl refl

module _ {E : Type 0} where
  -- what a test lets through of both lists of a queue
  abbrev pub sieve : Test → Queue E → Queue E
  sieve t q = record {
    waiting = filter (λ (w : SubKey × E). not (t w.0)) q.waiting;
    subscriptions = filter (λ (k : SubKey). not (t k)) q.subscriptions;
    events_on = q.events_on;
  }

  sieve-both : (f g : Test) (q : Queue E) → sieve g (sieve f q) ≡ sieve (λ (k : SubKey). f k || g k) q
  sieve-both f g q =
      λ i. record {
        waiting = filter-both (λ (w : SubKey × E). f w.0) (λ (w : SubKey × E). g w.0) q.waiting i;
        subscriptions = filter-both f g q.subscriptions i;
        events_on = q.events_on;
      }

  pub sieve-agree : (f g : Test) (q : Queue E) → ((k : SubKey) → f k ≡ g k) → sieve f q ≡ sieve g q
  sieve-agree f g q agree = ap (λ (t : Test). sieve t q) (λ i k. agree k i)

  pub sieve-none : (f : Test) (q : Queue E) → ((k : SubKey) → f k ≡ false) → sieve f q ≡ q
  sieve-none f q none =
      let w : filter (λ (w : SubKey × E). not (f w.0)) q.waiting ≡ q.waiting = filter-all (λ (w : SubKey × E). not (f w.0)) q.waiting (λ i x at. ap not (none x.0)) in
      let s : filter (λ (k : SubKey). not (f k)) q.subscriptions ≡ q.subscriptions = filter-all (λ (k : SubKey). not (f k)) q.subscriptions (λ i x at. ap not (none x)) in
      λ i. record { waiting = w i; subscriptions = s i; events_on = q.events_on }

  -- what the subscriptions of a list do, one by one
  abbrev pub steps : Test → Queue E → List SubKey → Queue E
  steps gone q keys = fold (λ (r : Queue E) (k : SubKey). cond (gone k) (cancelled k r) r) q keys

  steps-next : (gone : Test) (x : SubKey) (keys : List SubKey) (q : Queue E) → ((r : Queue E) → steps gone r keys ≡ sieve (λ (k : SubKey). gone k && is_among k keys) r)
      → (b : Bool) → gone x ≡ b → steps gone q (x ∷ keys) ≡ sieve (λ (k : SubKey). gone k && is_among k (x ∷ keys)) q
  steps-next gone x keys q rest true is =
      ap (λ (b : Bool). steps gone (cond b (cancelled x q) q) keys) is
      ∙ rest (sieve (same x) q)
      ∙ sieve-both (same x) (λ (k : SubKey). gone k && is_among k keys) q
      ∙ sieve-agree (λ (k : SubKey). same x k || (gone k && is_among k keys)) (λ (k : SubKey). gone k && (same k x || is_among k keys)) q
      (λ k. ap (λ (b : Bool). b || (gone k && is_among k keys)) (turned k (same x k) (same k x) refl refl) ∙ here k (same k x) (gone k) refl refl)
    where
      -- cancelled names the subscription from the other side
      turned : (k : SubKey) (a b : Bool) → same x k ≡ a → same k x ≡ b → a ≡ b
      turned k true true ea eb = refl
      turned k true false ea eb = absurd (both_ways (same k x) eb (subst (λ (z : SubKey). same z x ≡ true) (same_is x k ea) (same_itself x)))
      turned k false true ea eb = absurd (both_ways (same x k) ea (subst (λ (z : SubKey). same z k ≡ true) (same_is k x eb) (same_itself k)))
      turned k false false ea eb = refl

      here : (k : SubKey) (a b : Bool) → same k x ≡ a → gone k ≡ b → (a || (b && is_among k keys)) ≡ (b && (a || is_among k keys))
      here k true true s g = refl
      here k true false s g = absurd (both_ways (gone k) g (ap gone (same_is k x s) ∙ is))
      here k false true s g = refl
      here k false false s g = refl
  steps-next gone x keys q rest false is =
      ap (λ (b : Bool). steps gone (cond b (cancelled x q) q) keys) is
      ∙ rest q
      ∙ sieve-agree (λ (k : SubKey). gone k && is_among k keys) (λ (k : SubKey). gone k && (same k x || is_among k keys)) q (λ k. other k (same k x) (gone k) refl refl)
    where
      other : (k : SubKey) (a b : Bool) → same k x ≡ a → gone k ≡ b → (b && is_among k keys) ≡ (b && (a || is_among k keys))
      other k true true s g = absurd (both_ways (gone k) (ap gone (same_is k x s) ∙ is) g)
      other k true false s g = refl
      other k false true s g = refl
      other k false false s g = refl

  pub steps-sieve : (gone : Test) (keys : List SubKey) (q : Queue E) → steps gone q keys ≡ sieve (λ (k : SubKey). gone k && is_among k keys) q
  steps-sieve gone [] q = sym (sieve-none (λ (k : SubKey). gone k && false) q (λ k. by (gone k)))
    where
      by : (b : Bool) → (b && false) ≡ false
      by true = refl
      by false = refl
  steps-sieve gone (x ∷ keys) q = steps-next gone x keys q (λ r. steps-sieve gone keys r) (gone x) refl

  -- the same, of its own subscriptions
  pub without-sieve : (gone : Test) (q : Queue E) → queue_without gone q ≡ sieve (λ (k : SubKey). gone k && is_among k q.subscriptions) q
  without-sieve gone q = steps-sieve gone q.subscriptions q

  -- a subscription that it has is taken out, and another is not
  pub without-one : (key : SubKey) (q : Queue E) → is_among key q.subscriptions ≡ true → queue_without (same key) q ≡ cancelled key q
  without-one key q there =
      without-sieve (same key) q
      ∙ sieve-agree (λ (k : SubKey). same key k && is_among k q.subscriptions) (same key) q (λ k. by k (same key k) refl)
    where
      by : (k : SubKey) (b : Bool) → same key k ≡ b → (b && is_among k q.subscriptions) ≡ b
      by k true is = subst (λ (x : SubKey). is_among x q.subscriptions ≡ true) (same_is key k is) there
      by k false is = refl

  pub without-none : (key : SubKey) (q : Queue E) → is_among key q.subscriptions ≡ false → queue_without (same key) q ≡ q
  without-none key q absent =
      without-sieve (same key) q ∙ sieve-none (λ (k : SubKey). same key k && is_among k q.subscriptions) q (λ k. by k (same key k) refl)
    where
      by : (k : SubKey) (b : Bool) → same key k ≡ b → (b && is_among k q.subscriptions) ≡ false
      by k true is = subst (λ (x : SubKey). is_among x q.subscriptions ≡ false) (same_is key k is) absent
      by k false is = refl

  -- two tests, one after the other
  pub without-both : (f g : Test) (q : Queue E) → queue_without g (queue_without f q) ≡ queue_without (λ (k : SubKey). f k || g k) q
  without-both f g q =
      let t : Test = λ (k : SubKey). f k && is_among k q.subscriptions in
      ap (λ (r : Queue E). queue_without g r) (without-sieve f q)
      ∙ without-sieve g (sieve t q)
      ∙ sieve-both t (λ (k : SubKey). g k && is_among k (filter (λ (x : SubKey). not (t x)) q.subscriptions)) q
      ∙ sieve-agree (λ (k : SubKey). t k || (g k && is_among k (filter (λ (x : SubKey). not (t x)) q.subscriptions))) (λ (k : SubKey). (f k || g k) && is_among k q.subscriptions) q
      (λ k. ap (λ (b : Bool). t k || (g k && b)) (among-filter t k q.subscriptions) ∙ table (f k) (g k) (is_among k q.subscriptions))
      ∙ sym (without-sieve (λ (k : SubKey). f k || g k) q)
    where
      table : (a b c : Bool) → ((a && c) || (b && (c && not (a && c)))) ≡ ((a || b) && c)
      table true true true = refl
      table true true false = refl
      table true false true = refl
      table true false false = refl
      table false true true = refl
      table false true false = refl
      table false false true = refl
      table false false false = refl

  -- tests that agree on its subscriptions
  pub without-agree : (f g : Test) (q : Queue E) → ((k : SubKey) → is_among k q.subscriptions ≡ true → f k ≡ g k) → queue_without f q ≡ queue_without g q
  without-agree f g q agree =
      without-sieve f q
      ∙ sieve-agree (λ (k : SubKey). f k && is_among k q.subscriptions) (λ (k : SubKey). g k && is_among k q.subscriptions) q (λ k. by k (is_among k q.subscriptions) refl)
      ∙ sym (without-sieve g q)
    where
      by : (k : SubKey) (b : Bool) → is_among k q.subscriptions ≡ b → (f k && b) ≡ (g k && b)
      by k true is = ap (λ (a : Bool). a && true) (agree k is)
      by k false is = nothing (f k) ∙ sym (nothing (g k))
        where
          nothing : (a : Bool) → (a && false) ≡ false
          nothing true = refl
          nothing false = refl

  -- ---- of all queues

  pub each-both : (f g : Test) (qs : List (Queue E)) → without_each g (without_each f qs) ≡ without_each (λ (k : SubKey). f k || g k) qs
  each-both f g [] = refl
  each-both f g (q ∷ qs) = λ i. without-both f g q i ∷ each-both f g qs i

  pub each-agree : (f g : Test) (qs : List (Queue E)) → ((i : ℕ) (q : Queue E) (k : SubKey) → At qs i q → is_among k q.subscriptions ≡ true → f k ≡ g k) → without_each f qs ≡ without_each g qs
  each-agree f g [] agree = refl
  each-agree f g (q ∷ qs) agree =
      let here = without-agree f g q (λ k some. agree 0 q k refl some) in
      let rest = each-agree f g qs (λ i r k at some. agree (suc i) r k at some) in
      λ j. here j ∷ rest j

  pub each-none : (key : SubKey) (qs : List (Queue E)) → ((i : ℕ) (q : Queue E) → At qs i q → is_among key q.subscriptions ≡ false) → without_each (same key) qs ≡ qs
  each-none key [] none = refl
  each-none key (q ∷ qs) none =
      let here = without-none key q (none 0 q refl) in
      let rest = each-none key qs (λ i r at. none (suc i) r at) in
      λ j. here j ∷ rest j

  -- a test that names none of them
  pub each-false : (f : Test) (qs : List (Queue E)) → ((i : ℕ) (q : Queue E) (k : SubKey) → At qs i q → is_among k q.subscriptions ≡ true → f k ≡ false) → without_each f qs ≡ qs
  each-false f [] none = refl
  each-false f (q ∷ qs) none =
      let here : queue_without f q ≡ q =
      without-sieve f q ∙ sieve-none (λ (k : SubKey). f k && is_among k q.subscriptions) q (λ k. by k (is_among k q.subscriptions) refl) in
      let rest = each-false f qs (λ i r k at some. none (suc i) r k at some) in
      λ j. here j ∷ rest j
    where
      nothing : (a : Bool) → (a && false) ≡ false
      nothing true = refl
      nothing false = refl

      by : (k : SubKey) (b : Bool) → is_among k q.subscriptions ≡ b → (f k && b) ≡ false
      by k true is = ap (λ (a : Bool). a && true) (none 0 q k refl is)
      by k false is = nothing (f k)
