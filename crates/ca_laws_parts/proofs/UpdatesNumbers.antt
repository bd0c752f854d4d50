-- Numbers that rise, and the things that are at them.
use Rattle.std.proofs.Common.{◌≡◌, ℕ, zero, suc, ◌+◌, ◌<◌, ◌≤◌, List, [], ◌∷◌, ◌++◌, length, take, Option, Some, None, refl, sym, ap, ◌∙◌, subst, inl, inr, arith}
use Rattle.std.specs.Prelude.{filter_map, slice_get, unwrap_or}
use Rattle.std.specs.List.{cons_option}
use Rattle.std.proofs.lemmas.List.{length-append}
use Rattle.std.proofs.lemmas.List.Elements.{filter_map-append}
use Rattle.ca_text.specs.Place.{At}
use Rattle.ca_text.proofs.Places.{some_is, At-append, At-or, At-within}
use Rattle.ca_queue.specs.Order.{last_of}
use Rattle.ca_queue.proofs.Order.{last_push}
use Rattle.ca_laws_parts.specs.Subsequence.{IsSubsequence}
use Rattle.ca_laws_parts.specs.Rising.{EndsIn, Rises}

pub none_at : {A : Type 0} (k : ℕ) (x : A) → At [] k x → ⊥
none_at k x e = cc

pub At-below : {A : Type 0} (xs : List A) (k : ℕ) → k < length xs → (x : A) × At xs k x
At-below [] k lt = absurd (omega (arith, lt))
At-below (y ∷ xs) zero lt = (y, refl)
At-below (y ∷ xs) (suc k) lt = At-below xs k (omega (arith, lt))

pub At-take : {A : Type 0} (n : ℕ) (xs : List A) (k : ℕ) (x : A) → At (take n xs) k x → At xs k x
At-take zero xs k x at = absurd (none_at k x at)
At-take (suc n) [] k x at = absurd (none_at k x at)
At-take (suc n) (y ∷ xs) zero x at = at
At-take (suc n) (y ∷ xs) (suc k) x at = At-take n xs k x at

pub length-take-within : {A : Type 0} (n : ℕ) (xs : List A) → length (take n xs) ≤ length xs
length-take-within zero xs = omega arith
length-take-within (suc n) [] = omega arith
length-take-within (suc n) (x ∷ xs) = (let e : length (take n xs) ≤ length xs = length-take-within n xs in omega (arith, e))

-- the last of a list, by its place
pub ends-at : {A : Type 0} (xs : List A) (i : ℕ) (x : A) → At xs i x → i + 1 ≡ length xs → (front : List A) × (xs ≡ front ++ x ∷ [])
ends-at [] i x at is = absurd (none_at i x at)
ends-at (y ∷ []) zero x at is = ([], ap (λ (z : _). z ∷ []) (some_is y x at))
ends-at (y ∷ z ∷ rest) zero x at is = absurd (omega (arith, is))
ends-at (y ∷ xs) (suc i) x at is =
    let r = ends-at xs i x at (let e : suc i + 1 ≡ suc (length xs) = is in omega (arith, e)) in
    (y ∷ r.0, ap (λ (l : List _). y ∷ l) r.1)

-- ---- subsequences

pub part-take : {A : Type 0} (n : ℕ) (xs ys : List A) → IsSubsequence xs ys → IsSubsequence (take n xs) ys
part-take n xs ys p = record {
  place = p.place;
  same = λ i x at. p.same i x (At-take n xs i x at);
  rises = λ i j lt within. p.rises i j lt (let l : length (take n xs) ≤ length xs = length-take-within n xs in omega (arith, l, within));
}

pub part-front : {A : Type 0} (xs more ys : List A) → IsSubsequence (xs ++ more) ys → IsSubsequence xs ys
part-front xs more ys p = record {
  place = p.place;
  same = λ i x at. p.same i x (At-append xs more i x at);
  rises = λ i j lt within. p.rises i j lt (let l : length (xs ++ more) ≡ length xs + length more = length-append xs more in omega (arith, l, within));
}

-- ---- what is at these numbers

-- what is at these numbers of a list
abbrev pub pick : {A : Type 0} → List A → List ℕ → List A
pick posts ns = filter_map (slice_get posts) ns

abbrev pub AreBelow : List ℕ → ℕ → Type 0
AreBelow ns n = (i a : ℕ) → At ns i a → a < n

pub pick-length : {A : Type 0} (posts : List A) (ns : List ℕ) → AreBelow ns (length posts) → length (pick posts ns) ≡ length ns
pick-length posts [] below = refl
pick-length posts (n ∷ ns) below =
    let there = At-below posts n (below 0 n refl) in
    ap (λ (o : Option _). length (cons_option o (pick posts ns))) there.1
    ∙ ap (λ (l : ℕ). suc l) (pick-length posts ns (λ i a at. below (suc i) a at))

pub pick-at : {A : Type 0} (posts : List A) (ns : List ℕ) (i : ℕ) (v : A) → AreBelow ns (length posts) → At (pick posts ns) i v → (a : ℕ) × At ns i a × At posts a v
pick-at posts [] i v below at = absurd (none_at i v at)
pick-at {A} posts (n ∷ ns) i v below at =
    let there = At-below posts n (below 0 n refl) in
    go i there.0 there.1 (subst (λ (o : Option A). At (cons_option o (pick posts ns)) i v) there.1 at) (λ j h. pick-at posts ns j v (λ l a p. below (suc l) a p) h)
  where
    go : (i : ℕ) → (x : A) → At posts n x → At (x ∷ pick posts ns) i v → ((j : ℕ) → At (pick posts ns) j v → (a : ℕ) × At ns j a × At posts a v) → (a : ℕ) × At (n ∷ ns) i a × At posts a v
    go zero x here h rest = (n, refl, subst (λ (z : A). At posts n z) (some_is x v h) here)
    go (suc i) x here h rest = (let r = rest i h in (r.0, r.1, r.2))

pub number-at : (ns : List ℕ) (i a : ℕ) → At ns i a → unwrap_or (slice_get ns i) 0 ≡ a
number-at ns i a at = ap (λ (o : Option ℕ). unwrap_or o 0) at

pub pick-part : {A : Type 0} (posts : List A) (ns : List ℕ) → AreBelow ns (length posts) → Rises ns → IsSubsequence (pick posts ns) posts
pick-part {A} posts ns below rise = record {
  place = λ i. unwrap_or (slice_get ns i) 0;
  same = λ i x at.
      let r = pick-at posts ns i x below at in
      subst (λ (n : ℕ). At posts n x) (sym (number-at ns i r.0 r.1)) r.2;
  rises = λ i j lt within.
      let len : length (pick posts ns) ≡ length ns = pick-length posts ns below in
      let a = At-below ns i (omega (arith, len, within, lt)) in
      let b = At-below ns j (omega (arith, len, within)) in
      let less : a.0 < b.0 = rise i j a.0 b.0 lt a.1 b.1 in
      let x : unwrap_or (slice_get ns i) 0 ≡ a.0 = number-at ns i a.0 a.1 in
      let y : unwrap_or (slice_get ns j) 0 ≡ b.0 = number-at ns j b.0 b.1 in
      omega (arith, less, x, y);
}

-- the greatest number that there may be is the last
pub greatest-last : (ns : List ℕ) (n i : ℕ) → Rises ns → AreBelow ns (n + 1) → At ns i n → EndsIn ns n
greatest-last ns n i rise below at =
    elim (At-or ns (i + 1)) [
      | inl more ↦
          let up : n < more.0 = rise i (i + 1) n more.0 (omega arith) at more.1 in
          let lt : more.0 < n + 1 = below (i + 1) more.0 more.1 in
          absurd (omega (arith, up, lt))
      | inr none ↦
          let lt : i < length ns = At-within ns i n at in
          let r = ends-at ns i n at (omega (arith, none, lt)) in
          record { front = r.0; is = r.1 }
    ]

pub pick-last : {A : Type 0} (posts : List A) (ns : List ℕ) (n : ℕ) → n + 1 ≡ length posts → EndsIn ns n → last_of (pick posts ns) ≡ last_of posts
pick-last {A} posts ns n is ends =
    let there = At-below posts n (omega (arith, is)) in
    let r = ends-at posts n there.0 there.1 is in
    let one : pick posts (n ∷ []) ≡ there.0 ∷ [] = ap (λ (o : Option A). cons_option o []) there.1 in
    let mine : last_of (pick posts ns) ≡ Some there.0 =
    ap (λ (l : List ℕ). last_of (pick posts l)) ends.is
    ∙ ap (λ (l : List A). last_of l) (filter_map-append (slice_get posts) ends.front (n ∷ []))
    ∙ ap (λ (l : List A). last_of (pick posts ends.front ++ l)) one
    ∙ last_push None (pick posts ends.front) there.0 in
    mine ∙ sym (ap (λ (l : List A). last_of l) r.1 ∙ last_push None r.0 there.0)
