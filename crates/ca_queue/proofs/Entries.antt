-- Laws of the entries that wait, after each change.
use Rattle.std.proofs.Common.{◌≡◌, ℕ, ◌+◌, ◌<◌, ◌≤◌, Bool, true, false, not, ◌&&◌, ◌||◌, cond, List, [], ◌∷◌, ◌++◌, length, map, drop, set, refl, sym, ap, ◌∙◌, subst, inl, inr, arith, ltb, suc, zero}
use Rattle.std.specs.List.{count_by}
use Rattle.std.proofs.lemmas.Bool.{cases_Bool, both_ways, or_cases, or_right, lt-ltb}
use Rattle.std.proofs.lemmas.List.{length-map}
use Rattle.std.proofs.lemmas.List.Sums.{sum_by_push}
use Rattle.ca_queue.specs.declared.entry.SubKey.{SubKey}
use Rattle.ca_queue.specs.Keys.{same, is_among}
use Rattle.ca_queue.specs.Waiting.{is_of, has_entry, count_of, with_last, after_cancel}
use Rattle.ca_queue.proofs.Keys.{same_is, other_sym, number_of, count_by-cons}

module _ {E : Type 0} where
  abbrev pub keys_in : List (SubKey × E) → List SubKey
  keys_in q = map (λ w. w.0) q

  -- who has how many entries is known from the subscriptions of the entries alone
  has_by_keys : (k : SubKey) (q : List (SubKey × E)) → has_entry k q ≡ is_among k (keys_in q)
  has_by_keys k [] = refl
  has_by_keys k (w ∷ q) = ap (λ (b : Bool). same k w.0 || b) (has_by_keys k q)

  count_by_keys : (k : SubKey) (q : List (SubKey × E)) → count_of k q ≡ count_by (same k) (keys_in q)
  count_by_keys k [] = refl
  count_by_keys k (w ∷ q) =
      omega (arith, count_by-cons (is_of k) w q, count_by-cons (same k) w.0 (keys_in q), count_by_keys k q)

  pub has_alike : (k : SubKey) (q r : List (SubKey × E)) → keys_in q ≡ keys_in r → has_entry k q ≡ has_entry k r
  has_alike k q r e = has_by_keys k q ∙ ap (is_among k) e ∙ sym (has_by_keys k r)

  pub count_alike : (k : SubKey) (q r : List (SubKey × E)) → keys_in q ≡ keys_in r → count_of k q ≡ count_of k r
  count_alike k q r e = count_by_keys k q ∙ ap (count_by (same k)) e ∙ sym (count_by_keys k r)

  pub length_alike : (q r : List (SubKey × E)) → keys_in q ≡ keys_in r → length q ≡ length r
  length_alike q r e = omega (arith, length-map q (λ w. w.0), length-map r (λ w. w.0), ap length e)

  -- an entry in place of another of its subscription
  pub keys_with_last : (key : SubKey) (entry : E) (q : List (SubKey × E)) → keys_in (with_last key entry q) ≡ keys_in q
  keys_with_last key entry [] = refl
  keys_with_last key entry (w ∷ q) = go (same key w.0) (has_entry key q) refl (keys_with_last key entry q)
    where
      go : (s h : Bool) → same key w.0 ≡ s → keys_in (with_last key entry q) ≡ keys_in q → keys_in (cond (s && not h) ((key, entry) ∷ q) (w ∷ with_last key entry q)) ≡ w.0 ∷ keys_in q
      go true false is rest = ap (λ (k : SubKey). k ∷ keys_in q) (same_is key w.0 is)
      go true true is rest = ap (λ (ks : List SubKey). w.0 ∷ ks) rest
      go false h other rest = ap (λ (ks : List SubKey). w.0 ∷ ks) rest

  -- an entry at the back
  pub has_push : (k key : SubKey) (entry : E) (q : List (SubKey × E)) → has_entry k (q ++ (key, entry) ∷ []) ≡ (has_entry k q || same k key)
  has_push k key entry [] = elim (cases_Bool (same k key)) [ inl is ↦ rw is refl | inr other ↦ rw other refl ]
  has_push k key entry (w ∷ q) =
      elim (cases_Bool (same k w.0)) [
        | inl is ↦ rw is refl
        | inr other ↦ rw other (has_push k key entry q)
      ]

  pub count_push : (k key : SubKey) (entry : E) (q : List (SubKey × E)) → count_of k (q ++ (key, entry) ∷ []) ≡ count_of k q + number_of (same k key)
  count_push k key entry q = sum_by_push (λ w. number_of (is_of k w)) q (key, entry)

  -- a subscription without its entries
  pub has_without : (k key : SubKey) (q : List (SubKey × E)) → same key k ≡ false → has_entry k (after_cancel key q) ≡ has_entry k q
  has_without k key [] other = refl
  has_without k key (w ∷ q) other =
      elim (cases_Bool (same key w.0)) [
        | inl is ↦
            let differs : same k w.0 ≡ false = subst (λ (s : SubKey). same k s ≡ false) (same_is key w.0 is) (other_sym key k other) in
            rw (is, differs) (has_without k key q other)
        | inr not_it ↦ rw not_it (ap (λ (b : Bool). same k w.0 || b) (has_without k key q other))
      ]

  pub has_none : (key : SubKey) (q : List (SubKey × E)) → has_entry key (after_cancel key q) ≡ false
  has_none key [] = refl
  has_none key (w ∷ q) =
      elim (cases_Bool (same key w.0)) [
        | inl is ↦ rw is (has_none key q)
        | inr other ↦ rw (other, other) (has_none key q)
      ]

  pub count_without : (k key : SubKey) (q : List (SubKey × E)) → same key k ≡ false → count_of k (after_cancel key q) ≡ count_of k q
  count_without k key [] other = refl
  count_without k key (w ∷ q) other =
      elim (cases_Bool (same key w.0)) [
        | inl is ↦
            let differs : same k w.0 ≡ false = subst (λ (s : SubKey). same k s ≡ false) (same_is key w.0 is) (other_sym key k other) in
            let nothing : number_of (same k w.0) ≡ 0 = ap number_of differs in
            rw is (omega (arith, count_without k key q other, count_by-cons (is_of k) w q))
        | inr not_it ↦ rw not_it (omega (arith, count_without k key q other, count_by-cons (is_of k) w q, count_by-cons (is_of k) w (after_cancel key q)))
      ]

  pub length_without : (key : SubKey) (q : List (SubKey × E)) → length (after_cancel key q) + number_of (has_entry key q) ≤ length q
  length_without key [] = omega arith
  length_without key (w ∷ q) = go (same key w.0) (has_entry key q) (length_without key q)
    where
      go : (s h : Bool) → length (after_cancel key q) + number_of h ≤ length q → length (cond (not s) (w ∷ after_cancel key q) (after_cancel key q)) + number_of (s || h) ≤ suc (length q)
      go true h less = omega arith
      go false h less = omega arith

  -- it has an entry where it has more than none
  pub has_count : (key : SubKey) (q : List (SubKey × E)) → has_entry key q ≡ ltb 0 (count_of key q)
  has_count key [] = refl
  has_count key (w ∷ q) =
      elim (cases_Bool (same key w.0)) [
        | inl is ↦
            let one : number_of (same key w.0) ≡ 1 = ap number_of is in
            let more : 0 < count_of key (w ∷ q) = omega (arith, count_by-cons (is_of key) w q) in
            ap (λ (b : Bool). b || has_entry key q) is ∙ sym (lt-ltb 0 (count_of key (w ∷ q)) more)
        | inr other ↦
            let none : number_of (same key w.0) ≡ 0 = ap number_of other in
            let e : count_of key (w ∷ q) ≡ count_of key q = omega (arith, count_by-cons (is_of key) w q) in
            ap (λ (b : Bool). b || has_entry key q) other ∙ has_count key q ∙ ap (ltb 0) (sym e)
      ]

  pub has_behind : (key : SubKey) (q : List (SubKey × E)) (i : ℕ) → has_entry key (drop i q) ≡ true → has_entry key q ≡ true
  has_behind key q zero h = h
  has_behind key [] (suc i) h = h
  has_behind key (w ∷ q) (suc i) h = or_right (same key w.0) (has_entry key q) (has_behind key q i h)

  -- a write where the last entry of the subscription is
  pub with_last_at : (key : SubKey) (entry : E) (q : List (SubKey × E)) (i : ℕ) → has_entry key (drop i q) ≡ true → has_entry key (drop (suc i) q) ≡ false → set q i (key, entry) ≡ with_last key entry q
  with_last_at key entry [] i here behind = refl
  with_last_at key entry (w ∷ q) zero here behind =
      elim (or_cases (same key w.0) (has_entry key q) here) [
        | inl is ↦ rw (is, behind) refl
        | inr more ↦ absurd (both_ways (has_entry key q) behind more)
      ]
  with_last_at key entry (w ∷ q) (suc i) here behind =
      go (same key w.0) (has_entry key q) (has_behind key q i here) (with_last_at key entry q i here behind)
    where
      go : (s h : Bool) → h ≡ true → set q i (key, entry) ≡ with_last key entry q → w ∷ set q i (key, entry) ≡ cond (s && not h) ((key, entry) ∷ q) (w ∷ with_last key entry q)
      go s false some rest = absurd (both_ways false refl some)
      go true true some rest = ap (λ r. w ∷ r) rest
      go false true some rest = ap (λ r. w ∷ r) rest
