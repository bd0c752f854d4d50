-- Subscriptions one after the other: those that a test names are taken out.
use Rattle.std.proofs.Common.{◌≡◌, ℕ, zero, suc, ◌+◌, ◌≤◌, ◌||◌, inl, inr, Bool, true, false, not, cond, List, [], ◌∷◌, length, filter, map, refl, sym, ap, ◌∙◌, subst, arith}
use Rattle.std.proofs.lemmas.List.{length-map}
use Rattle.std.proofs.lemmas.Bool.{both_ways, cases_Bool, or_cases}
use Rattle.ca_text.specs.Place.{At}
use Rattle.ca_text.proofs.Places.{At-mapped, some_is}
use Rattle.ca_queue.specs.declared.entry.SubKey.{SubKey}
use Rattle.ca_queue.specs.Circuit.{without_each}
use Rattle.ca_queue.specs.Keys.{is_among, same}
use Rattle.ca_queue.proofs.Keys.{same_is}
use Rattle.ca_model.specs.Server.{Subscription, key_of}
use Rattle.ca_server_subscriptions.proofs.Sieves.{Test, each-both, each-false, filter-all, filter-both}
use Rattle.ca_server_subscriptions.proofs.Placing.{less-keys}
use Rattle.ca_server_subscriptions.specs.Subscribed.{AreKnown, Subscribed, has_key, without_those}

-- what passes a test was no earlier in the list
pub filtered-later : {A : Type 0} (f : A → Bool) (xs : List A) (i : ℕ) (x : A) → At (filter f xs) i x → (k : ℕ) × (i ≤ k) × At xs k x × (f x ≡ true)
filtered-later f [] i x at = absurd cc
filtered-later f (y ∷ xs) i x at = elim (cases_Bool (f y)) [
  | inl is ↦ first f y xs i x is (λ n got. filtered-later f xs n x got) (subst (λ (c : Bool). At (cond c (y ∷ filter f xs) (filter f xs)) i x) is at)
  | inr is ↦
      let r = filtered-later f xs i x (subst (λ (c : Bool). At (cond c (y ∷ filter f xs) (filter f xs)) i x) is at) in
      let later = r.1 in
      (suc r.0, omega (arith, later), r.2, r.3)
]
  where
    first : {A : Type 0} (f : A → Bool) (y : A) (xs : List A) (n : ℕ) (x : A) → f y ≡ true → ((m : ℕ) → At (filter f xs) m x → (k : ℕ) × (m ≤ k) × At xs k x × (f x ≡ true))
        → At (y ∷ filter f xs) n x → (k : ℕ) × (n ≤ k) × At (y ∷ xs) k x × (f x ≡ true)
    first f y xs zero x is rest got = (let one : y ≡ x = some_is y x got in (0, omega arith, got, ap f (sym one) ∙ is))
    first f y xs (suc n) x is rest got = (let r = rest n got in let later = r.1 in (suc r.0, omega (arith, later), r.2, r.3))

-- ---- tests one after the other

those-both : (f g : Test) (s : Subscribed) → without_those g (without_those f s) ≡ without_those (λ (k : SubKey). f k || g k) s
those-both f g s =
    let subs = filter-both (λ (x : Subscription). f (key_of x)) (λ (x : Subscription). g (key_of x)) s.subscriptions in
    let queues = each-both f g s.queues in
    λ i. record { subscriptions = subs i; queues = queues i }

-- one that the test names is out, so that the same are to be taken out of the rest
pub those-less : (f : Test) (key : SubKey) (s : Subscribed) → f key ≡ true → without_those f (without_those (same key) s) ≡ without_those f s
those-less f key s named = those-both (same key) f s ∙ ap (λ (t : Test). without_those t s) (λ i k. covered k (same key k) refl i)
  where
    covered : (k : SubKey) (b : Bool) → same key k ≡ b → (same key k || f k) ≡ f k
    covered k true is = ap (λ (b : Bool). b || f k) is ∙ sym (ap f (sym (same_is key k is)) ∙ named)
    covered k false is = ap (λ (b : Bool). b || f k) is

-- there are fewer then
pub fewer : (key : SubKey) (s : Subscribed) → has_key key s ≡ true → length (without_those (same key) s).subscriptions + 1 ≤ length s.subscriptions
fewer key s there =
    let less = less-keys key (map key_of s.subscriptions) there in
    let n = length-map s.subscriptions key_of in
    let m : length (filter (λ (k : SubKey). not (same key k)) (map key_of s.subscriptions)) ≡ length (without_those (same key) s).subscriptions =
    ap length (sym (keys-left s.subscriptions)) ∙ length-map (without_those (same key) s).subscriptions key_of in
    omega (arith, less, n, m)
  where
    keys-left : (ss : List Subscription) → map key_of (filter (λ (x : Subscription). not (same key (key_of x))) ss) ≡ filter (λ (k : SubKey). not (same key k)) (map key_of ss)
    keys-left [] = refl
    keys-left (x ∷ ss) =
        elim (cases_Bool (same key (key_of x))) [
          | inl is ↦ rw is (keys-left ss)
          | inr differs ↦ rw differs (ap (λ (ks : List SubKey). key_of x ∷ ks) (keys-left ss))
        ]

among-at : (k : SubKey) (ks : List SubKey) → is_among k ks ≡ true → (i : ℕ) × At ks i k
among-at k [] some = absurd (both_ways false refl some)
among-at k (x ∷ ks) some = elim (or_cases (same k x) (is_among k ks) some) [
  | inl is ↦ (let e = same_is k x is in (0, subst (λ (y : SubKey). At (x ∷ ks) 0 y) (sym e) refl))
  | inr later ↦ (let r = among-at k ks later in (suc r.0, r.1))
]

-- all that the test names are out
pub those-out : (f : Test) (old now : Subscribed) → without_those f now ≡ without_those f old → ((i : ℕ) (x : Subscription) → At now.subscriptions i x → f (key_of x) ≡ false) → AreKnown now → now ≡ without_those f old
those-out f old now rest none known =
    let subs : filter (λ (x : Subscription). not (f (key_of x))) now.subscriptions ≡ now.subscriptions =
    filter-all (λ (x : Subscription). not (f (key_of x))) now.subscriptions (λ i x at. ap not (none i x at)) in
    let queues : without_each f now.queues ≡ now.queues = each-false f now.queues (λ i q k at some.
    let a = among-at k (map key_of now.subscriptions) (known i q k at some) in
    let m = At-mapped key_of now.subscriptions a.0 k a.1 in
    ap f m.2 ∙ none a.0 m.0 m.1) in
    let same_it : without_those f now ≡ now = λ i. record { subscriptions = subs i; queues = queues i } in
    sym same_it ∙ rest
