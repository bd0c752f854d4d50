-- Texts of decimal numbers, put together and cut.
use Rattle.std.proofs.Common.{◌≡◌, ℕ, zero, suc, ◌+◌, ◌-◌, ◌/◌, ◌%◌, ◌*◌, ◌^◌, ◌≤◌, ◌<◌, min, Bool, true, false, cond, ◌||◌, ◌⊎◌, ltb, lt-ltb, List, [], ◌∷◌, ◌++◌, length, take, replicate, refl, sym, ap, subst, ◌∙◌, append_assoc, arith, inl, inr, take-take, length-take}
use Rattle.std.proofs.lemmas.Bool.{ne_eqb}
use Rattle.std.proofs.lemmas.List.{take_all, append-nil}
use Rattle.std.proofs.Math.Seq.{take-append-add}
use Rattle.std.specs.Fmt.{decimal}
use native.Mathlib.Nat.{eq-zero-or-pos, mul-le-mul}
use Rattle.std.specs.Float.{Float, Format, binary32, binary64, float_with_sign}
use lib.Ieee.{lt}
use Rattle.ca_display.specs.Decimal.{padded_digits, point_text, in_width, size_text, fixed_text, scientific_text}
use Rattle.ca_display.specs.Real.{whole_in, fixed_limit, most_places, more_bytes, printed_text}

pub units_fit : (whole power : ℕ) → whole < 2 ^ 64 → power ≤ 100000000 → whole * power ≤ 18446744073709551616 * 100000000
units_fit whole power small few = mul-le-mul {n₁ = whole} {m₁ = power} {n₂ = 18446744073709551616} {m₂ = 100000000} (omega (arith, small)) few

-- as much of a text as there is room for
pub put_cut : (old new bytes kept : List ℕ) (room size : ℕ) → room + length old ≡ 40 → size ≡ min (length bytes) room → kept ≡ take size bytes → new ≡ old ++ kept → new ≡ take 40 (old ++ bytes)
put_cut old new bytes kept room size h is_size is_kept is =
    let all : 40 ≡ length old + room = omega (arith, h) in
    let whole : take 40 (old ++ bytes) ≡ old ++ take room bytes = ap (λ (n : ℕ). take n (old ++ bytes)) all ∙ take-append-add old bytes room in
    let same : take size bytes ≡ take room bytes =
    elim (eq-zero-or-pos (length bytes - room)) [
      | inl e ↦ take_all size bytes (omega arith) ∙ sym (take_all room bytes (omega arith))
      | inr g ↦ let e : size ≡ room = omega arith in ap (λ (n : ℕ). take n bytes) e
    ] in
    is ∙ ap (λ (x : List ℕ). old ++ x) (is_kept ∙ same) ∙ sym whole

cut_again : (n : ℕ) (xs ys : List ℕ) → take n (take n xs ++ ys) ≡ take n (xs ++ ys)
cut_again zero xs ys = refl
cut_again (suc n) [] ys = refl
cut_again (suc n) (x ∷ xs) ys = ap (λ (l : List ℕ). x ∷ l) (cut_again n xs ys)

-- one piece more
pub cut_more : (o s a t u : List ℕ) → t ≡ take 40 (o ++ s) → u ≡ take 40 (t ++ a) → u ≡ take 40 (o ++ (s ++ a))
cut_more o s a t u p q =
    q ∙ ap (λ (x : List ℕ). take 40 (x ++ a)) p ∙ cut_again 40 (o ++ s) a ∙ ap (λ (x : List ℕ). take 40 x) (append_assoc o s a)

behind_point : ℕ → ℕ → Bool → List ℕ
behind_point p n b = cond b [] (46 ∷ padded_digits p (n % 10 ^ p))

pub point_none : (o t : List ℕ) (p n w : ℕ) → p ≡ 0 → w ≡ 10 ^ p → t ≡ take 40 (o ++ decimal (n / w)) → t ≡ take 40 (o ++ point_text p n)
point_none o t p n w none power is =
    let whole : decimal (n / w) ≡ decimal (n / 10 ^ p) = ap (λ (k : ℕ). decimal (n / k)) power in
    let nothing : point_text p n ≡ decimal (n / 10 ^ p) = subst (λ (k : ℕ). point_text k n ≡ decimal (n / 10 ^ k)) (sym none) (append-nil (decimal (n / 10 ^ 0))) in
    is ∙ ap (λ (x : List ℕ). take 40 (o ++ x)) (whole ∙ sym nothing)

pub point_some : (o t1 t2 t3 : List ℕ) (p n w : ℕ) → (p ≡ 0 → ⊥) → w ≡ 10 ^ p → t1 ≡ take 40 (o ++ decimal (n / w)) → t2 ≡ take 40 (t1 ++ 46 ∷ []) → t3 ≡ take 40 (t2 ++ padded_digits p (n % w)) → t3 ≡ take 40 (o ++ point_text p n)
unfolding behind_point
point_some o t1 t2 t3 p n w some power is1 is2 is3 =
    let a = decimal (n / w) in
    let dot : List ℕ = 46 ∷ [] in
    let d = padded_digits p (n % w) in
    let all : t3 ≡ take 40 (o ++ ((a ++ dot) ++ d)) = cut_more o (a ++ dot) d t2 t3 (cut_more o a dot t1 t2 is1 is2) is3 in
    let digits : d ≡ padded_digits p (n % 10 ^ p) = ap (λ (k : ℕ). padded_digits p (n % k)) power in
    let whole : a ≡ decimal (n / 10 ^ p) = ap (λ (k : ℕ). decimal (n / k)) power in
    let shown : point_text p n ≡ decimal (n / 10 ^ p) ++ (46 ∷ padded_digits p (n % 10 ^ p)) = ap (λ (b : Bool). decimal (n / 10 ^ p) ++ behind_point p n b) (ne_eqb p 0 some) in
    all ∙ ap (λ (x : List ℕ). take 40 (o ++ x)) (append_assoc a dot d ∙ ap (λ (x : List ℕ). a ++ (46 ∷ x)) digits ∙ ap (λ (x : List ℕ). x ++ (46 ∷ padded_digits p (n % 10 ^ p))) whole ∙ sym shown)

-- a text put behind another, as cut as that is
cut-behind : (n m : ℕ) (xs ys : List ℕ) → n ≤ m → take n (xs ++ take m ys) ≡ take n (xs ++ ys)
cut-behind zero m xs ys h = refl
cut-behind (suc n) m [] ys h = take-take (suc n) m ys h
cut-behind (suc n) m (x ∷ xs) ys h = ap (λ (l : List ℕ). x ∷ l) (cut-behind n m xs ys (omega arith))

-- what is cut before it gets spaces in front, or only after
pub width-cut : (w : ℕ) (b : List ℕ) → w ≤ 40 → take 40 (in_width w (take 40 b)) ≡ take 40 (in_width w b)
width-cut w b few =
    let size : w - length (take 40 b) ≡ w - length b = omega (arith, length-take 40 b) in
    ap (λ (k : ℕ). take 40 (replicate k 32 ++ take 40 b)) size ∙ cut-behind 40 40 (replicate (w - length b) 32) b (omega arith)

most-width : (f : Format) → most_places f + more_bytes f ≤ 24
most-width binary32 = omega arith
most-width binary64 = omega arith

pub far-text : (f : Format) (p w : ℕ) (sign n r : List ℕ) (x : Float) → (8 < p) ⊎ (lt (whole_in binary64 (fixed_limit f)) (float_with_sign false x) ≡ true) → w ≡ min p (most_places f) + more_bytes f → n ≡ take 40 (sign ++ size_text (scientific_text (min p (most_places f))) x) → r ≡ take 40 (in_width w n) → r ≡ take 40 (printed_text f p sign x)
far-text f p w sign n r x far is-w is-n is =
    let most = min p (most_places f) in
    let test = lt (whole_in binary64 (fixed_limit f)) (float_with_sign false x) in
    let b = sign ++ size_text (scientific_text most) x in
    let yes : (ltb 8 p || test) ≡ true = elim far [ inl h ↦ ap (λ (z : Bool). z || test) (lt-ltb 8 p h) | inr h ↦ ap (λ (z : Bool). ltb 8 p || z) h ∙ or-true (ltb 8 p) ] in
    is
    ∙ ap (λ (z : List ℕ). take 40 (in_width w z)) is-n
    ∙ width-cut w b (omega (arith, most-width f))
    ∙ ap (λ (z : ℕ). take 40 (in_width z b)) is-w
    ∙ sym (ap (λ (z : Bool). take 40 (cond z (in_width (most + more_bytes f) b) (sign ++ size_text (fixed_text (min p 3)) x))) yes)
  where
    or-true : (z : Bool) → (z || true) ≡ true
    or-true true = refl
    or-true false = refl
