-- What the fields of an event queue stand for, before and after each change.
use Rattle.std.proofs.Common.{◌≡◌, ℕ, ◌+◌, ◌<◌, Bool, true, false, not, cond, List, [], ◌∷◌, ◌++◌, length, map, take, drop, get_or, set, refl, sym, ap, ◌∙◌, inl, inr, arith, suc, zero, add-one}
use Rattle.std.specs.List.{filter}
use Rattle.std.proofs.lemmas.Bool.{cases_Bool, both_ways}
use Rattle.ca_queue.specs.declared.entry.SubKey.{SubKey}
use Rattle.ca_queue.specs.declared.list_queue.Subscriber.{Subscriber}
use Rattle.ca_queue.specs.Keys.{same, is_among}
use Rattle.ca_queue.specs.Waiting.{count_of, after_cancel}
use Rattle.ca_queue.specs.Layout.{keys_of, count_at, recounted, counts}
use Rattle.ca_queue.proofs.Keys.{same_is}
use Rattle.ca_queue.proofs.Entries.{count_without}

-- one more element was put through f
pub map_step : {X : Type 0} (f : X → X) (xs : List X) (i : ℕ) (d : X) → i < length xs → set (map f (take i xs) ++ drop i xs) i (f (get_or (map f (take i xs) ++ drop i xs) i d)) ≡ map f (take (suc i) xs) ++ drop (suc i) xs
map_step f [] i d less = absurd (omega arith)
map_step f (x ∷ xs) zero d less = refl
map_step f (x ∷ xs) (suc i) d less = ap (λ ys. f x ∷ ys) (map_step f xs i d (omega arith))

-- one more subscription was looked at
pub recount_more : (key : SubKey) (n i : ℕ) (d : Subscriber) (xs now new : List Subscriber) (b : Bool) → i < length xs → now ≡ map (recounted key n) (take i xs) ++ drop i xs → b ≡ same key (get_or now i d).key → new ≡ set now i (cond b (record { key = (get_or now i d).key; waiting = n }) (get_or now i d)) → new ≡ map (recounted key n) (take (i + 1) xs) ++ drop (i + 1) xs
recount_more key n i d xs now new b less now_is b_is new_is =
    let f : Subscriber → Subscriber = recounted key n in
    let written : new ≡ set now i (f (get_or now i d)) =
    new_is ∙ ap (λ (t : Bool). set now i (cond t (record { key = (get_or now i d).key; waiting = n }) (get_or now i d))) b_is in
    rw add-one (written ∙ ap (λ (ys : List Subscriber). set ys i (f (get_or ys i d))) now_is ∙ map_step f xs i d less)

pub keys_recounted : (key : SubKey) (n : ℕ) (subscriptions : List Subscriber) → keys_of (map (recounted key n) subscriptions) ≡ keys_of subscriptions
keys_recounted key n [] = refl
keys_recounted key n (s ∷ rest) =
    elim (cases_Bool (same key s.key)) [
      | inl is ↦ rw is (ap (λ ks. s.key ∷ ks) (keys_recounted key n rest))
      | inr other ↦ rw other (ap (λ ks. s.key ∷ ks) (keys_recounted key n rest))
    ]

pub keys_forgotten : (key : SubKey) (subscriptions : List Subscriber) → keys_of (filter (λ s. not (same key s.key)) subscriptions) ≡ filter (λ s. not (same key s)) (keys_of subscriptions)
keys_forgotten key [] = refl
keys_forgotten key (s ∷ rest) =
    elim (cases_Bool (same key s.key)) [
      | inl is ↦ rw is (keys_forgotten key rest)
      | inr other ↦ rw other (ap (λ ks. s.key ∷ ks) (keys_forgotten key rest))
    ]

module _ {E : Type 0} where
  pub counts_alike : (keys : List SubKey) (q r : List (SubKey × E)) → ((k : SubKey) → count_of k q ≡ count_of k r) → counts keys q ≡ counts keys r
  counts_alike [] q r alike = refl
  counts_alike (k ∷ keys) q r alike = rw (alike k) (ap (λ (ss : List Subscriber). record { key = k; waiting = count_of k r } ∷ ss) (counts_alike keys q r alike))

  -- one subscription has another count now
  pub counts_recounted : (key : SubKey) (n : ℕ) (keys : List SubKey) (q r : List (SubKey × E)) → ((k : SubKey) → same key k ≡ false → count_of k q ≡ count_of k r) → count_of key r ≡ n → map (recounted key n) (counts keys q) ≡ counts keys r
  counts_recounted key n [] q r alike now = refl
  counts_recounted key n (k ∷ keys) q r alike now = one (same key k) refl (counts_recounted key n keys q r alike now)
    where
      joined : (m : ℕ) (rest : List Subscriber) → m ≡ count_of k r → rest ≡ counts keys r → record { key = k; waiting = m } ∷ rest ≡ counts (k ∷ keys) r
      joined m rest now rest_is =
          ap (λ (i : ℕ). let s : Subscriber = record { key = k; waiting = i } in s ∷ rest) now
          ∙ ap (λ (ss : List Subscriber). let s : Subscriber = record { key = k; waiting = count_of k r } in s ∷ ss) rest_is

      one : (b : Bool) → same key k ≡ b → map (recounted key n) (counts keys q) ≡ counts keys r → cond b (record { key = k; waiting = n }) (record { key = k; waiting = count_of k q }) ∷ map (recounted key n) (counts keys q) ≡ counts (k ∷ keys) r
      one true is rest = joined n (map (recounted key n) (counts keys q)) (sym now ∙ ap (λ (s : SubKey). count_of s r) (same_is key k is)) rest
      one false other rest = joined (count_of k q) (map (recounted key n) (counts keys q)) (alike k other) rest

  pub count_at_counts : (key : SubKey) (keys : List SubKey) (q : List (SubKey × E)) → is_among key keys ≡ true → count_at key (counts keys q) ≡ count_of key q
  count_at_counts key [] q there = absurd (both_ways false refl there)
  count_at_counts key (k ∷ keys) q there =
      elim (cases_Bool (same key k)) [
        | inl is ↦ rw is (ap (λ (s : SubKey). count_of s q) (sym (same_is key k is)))
        | inr other ↦ rw other (count_at_counts key keys q (rw other at there))
      ]

  pub counts_forgotten : (key : SubKey) (keys : List SubKey) (q : List (SubKey × E)) → filter (λ s. not (same key s.key)) (counts keys q) ≡ counts (filter (λ s. not (same key s)) keys) (after_cancel key q)
  counts_forgotten key [] q = refl
  counts_forgotten key (k ∷ keys) q =
      elim (cases_Bool (same key k)) [
        | inl is ↦ rw is (counts_forgotten key keys q)
        | inr other ↦
            rw other (ap (λ (i : ℕ). let s : Subscriber = record { key = k; waiting = i } in s ∷ filter (λ s. not (same key s.key)) (counts keys q)) (sym (count_without k key q other))
            ∙ ap (λ (ss : List Subscriber). let s : Subscriber = record { key = k; waiting = count_of k (after_cancel key q) } in s ∷ ss) (counts_forgotten key keys q))
      ]
