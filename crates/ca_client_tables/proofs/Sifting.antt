-- A loop along a list that takes what a test names.
use Rattle.std.proofs.Common.{◌≡◌, ◌≢◌, ◌∙◌, ℕ, suc, zero, ◌+◌, ◌≤◌, Bool, true, false, cond, List, [], ◌∷◌, ◌++◌, Some, ap, append_assoc, arith, drop, length, sym}
use Rattle.std.specs.Prelude.{slice_get}
use Rattle.std.proofs.lemmas.List.{append-nil, drop_all, length-append}
use Rattle.ca_text.proofs.Places.{some_is}

module _ {A : Type 0} where
  from : (xs : List A) (n : ℕ) (x : A) → slice_get xs n ≡ Some x → drop n xs ≡ x ∷ drop (suc n) xs
  from [] n x found = absurd cc
  from (y ∷ xs) zero x found = ap (λ (z : A). z ∷ xs) (some_is y x found)
  from (y ∷ xs) (suc n) x found = from xs n x found

  pub drop-at : (xs : List A) (n : ℕ) (x : A) → slice_get xs n ≡ Some x → drop n xs ≡ x ∷ drop (n + 1) xs
  drop-at xs n x found = from xs n x found ∙ ap (λ (k : ℕ). x ∷ drop k xs) {x = suc n} {y = n + 1} (omega arith)

module _ {A B : Type 0} (taken : List A → List B) (test : A → Bool) (g : A → B) (one : (x : A) (xs : List A) → taken (x ∷ xs) ≡ cond (test x) (g x ∷ taken xs) (taken xs)) (none : taken [] ≡ []) where
  pub taken-one : (xs : List A) (n : ℕ) (x : A) (found : List B) → slice_get xs n ≡ Some x → test x ≡ true → found ++ taken (drop n xs) ≡ taken xs → (found ++ g x ∷ []) ++ taken (drop (n + 1) xs) ≡ taken xs
  taken-one xs n x found here is_it before =
      append_assoc found (g x ∷ []) (taken (drop (n + 1) xs))
      ∙ ap (λ (ys : List B). found ++ ys)
      (sym (ap taken (drop-at xs n x here) ∙ one x (drop (n + 1) xs) ∙ ap (λ (b : Bool). cond b (g x ∷ taken (drop (n + 1) xs)) (taken (drop (n + 1) xs))) is_it))
      ∙ before

  pub taken-not : (xs : List A) (n : ℕ) (x : A) (found : List B) → slice_get xs n ≡ Some x → test x ≡ false → found ++ taken (drop n xs) ≡ taken xs → found ++ taken (drop (n + 1) xs) ≡ taken xs
  taken-not xs n x found here not_it before =
      ap (λ (ys : List B). found ++ ys)
      (sym (ap taken (drop-at xs n x here) ∙ one x (drop (n + 1) xs) ∙ ap (λ (b : Bool). cond b (g x ∷ taken (drop (n + 1) xs)) (taken (drop (n + 1) xs))) not_it))
      ∙ before

  -- one that it names is among all that it does
  pub taken-some : (xs : List A) (n : ℕ) (x : A) (found : List B) → slice_get xs n ≡ Some x → test x ≡ true → found ++ taken (drop n xs) ≡ taken xs → taken xs ≢ []
  taken-some xs n x found here is_it before nothing =
      let all = taken-one xs n x found here is_it before ∙ nothing in
      omega (arith, ap length all, length-append (found ++ g x ∷ []) (taken (drop (n + 1) xs)), length-append found (g x ∷ []))

  -- each was looked at
  pub taken-all : (xs : List A) (n : ℕ) (found : List B) → length xs ≤ n → found ++ taken (drop n xs) ≡ taken xs → found ≡ taken xs
  taken-all xs n found done before =
      sym (append-nil found)
      ∙ ap (λ (ys : List B). found ++ ys) (sym (ap taken (drop_all n xs done) ∙ none))
      ∙ before
