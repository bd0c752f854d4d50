-- The size of a DOUBLE, from its bit pattern to its decimal digits.
use Rattle.std.proofs.Common.{◌≡◌, ℕ, zero, suc, ◌+◌, ◌-◌, ◌*◌, ◌/◌, ◌%◌, ◌^◌, ◌≤◌, ◌<◌, min, ℤ, pos, negsuc, Bool, true, false, cond, List, [], ◌∷◌, length, from_bits, refl, sym, ap, ap₂, subst, subst₂, ◌∙◌, arith, inl, inr, pow-add, mul-one, mul-le-mul, mul-le-mul_left, mul-le-mul_right, lt_of_le_of_lt, lit<, ltb-false, eqb, leb, eq-zero-or-pos}
use Rattle.std.proofs.lemmas.Bool.{cases_lt}
use Rattle.std.proofs.lemmas.Nat.{mul-pow}
use Rattle.std.specs.Float.{Float, Format, binary32, binary64, nan, inf, fin, float_is_finite, float_is_infinite, float_with_sign}
use native.Mathlib.Nat.{pow-le-pow_right, one-le-pow, eq_of_mul-eq-mul_right, le_of_mul-le-mul_right}
use lib.Ieee.{is_nan, up, down, odd, of_fields, of_bits, top, lt, of_int}
use lib.Ieee.Exact.{HasValue, odd_sign}
use Rattle.ca_display.specs.Decimal.{exact_units, exact_places, size_text}
use Rattle.ca_display.specs.Real.{whole_in, fixed_limit}
use Rattle.ca_display.specs.Exact.{number_of, AreDigits, IsSize, IsUpTo}
use Rattle.ca_display.proofs.Digits.{ten-pos, ten-less, number-less}

-- ---- the fields of a pattern
fields : (s : Bool) (x t : ℕ) → float_is_finite (of_fields binary64 s x t) ≡ true → HasValue (of_fields binary64 s x t) s ((t + 4503599627370496 * min x 1) * 2 ^ (x - 1)) (2 ^ 1074)
unfolding of_fields float_is_finite
fields s zero t h = subst (λ (a : ℕ). HasValue (odd 53 s t 0 1074) s a (2 ^ 1074)) (omega arith) (odd_sign 53 s t 0 1074)
fields s (suc x) t h = go (eqb (suc x) 2047) (eqb t 0) h
  where
    one : 1 ≡ min (suc x) 1
    one = omega arith

    same : (4503599627370496 + t) * 2 ^ x ≡ (t + 4503599627370496 * min (suc x) 1) * 2 ^ (suc x - 1)
    same = ap (λ (z : ℕ). z * 2 ^ x) (omega arith) ∙ ap₂ (λ (a e : ℕ). (t + 4503599627370496 * a) * 2 ^ e) one (omega arith)

    go : (b c : Bool) → float_is_finite (cond b (cond c (inf s) nan) (odd 53 s (4503599627370496 + t) x 1074)) ≡ true → HasValue (cond b (cond c (inf s) nan) (odd 53 s (4503599627370496 + t) x 1074)) s ((t + 4503599627370496 * min (suc x) 1) * 2 ^ (suc x - 1)) (2 ^ 1074)
    go true true h = cc
    go true false h = cc
    go false c h = subst (λ (a : ℕ). HasValue (odd 53 s (4503599627370496 + t) x 1074) s a (2 ^ 1074)) same (odd_sign 53 s (4503599627370496 + t) x 1074)

ten-parts : (b : ℕ) → 10 ^ b ≡ 2 ^ b * 5 ^ b
ten-parts b = mul-pow 2 5 b

halves : (u v k a b l : ℕ) → u * 2 ^ l ≡ v * 2 ^ k → k + b ≡ a + l → u * 2 ^ b ≡ v * 2 ^ a
halves u v k a b l h e =
    let powers : 2 ^ k * 2 ^ b ≡ 2 ^ a * 2 ^ l = sym (pow-add 2 k b) ∙ ap (λ (z : ℕ). 2 ^ z) e ∙ pow-add 2 a l in
    eq_of_mul-eq-mul_right (2 ^ l) (one-le-pow l 2 (omega arith)) (u * 2 ^ b) (v * 2 ^ a) (omega (arith, ap (λ (z : ℕ). z * 2 ^ b) h, ap (λ (z : ℕ). v * z) powers))

-- q * 2 ^ k / 2 ^ l is q * 2 ^ a * 5 ^ b units of 10 ^ -b
value-size : (x : Float) (s : Bool) (q k a b l n : ℕ) → HasValue x s (q * 2 ^ k) (2 ^ l) → k + b ≡ a + l → n ≡ q * 2 ^ a * 5 ^ b → IsSize x n b
value-size nan s q k a b l n h e is = absurd h
value-size (inf t) s q k a b l n h e is = absurd h
value-size (fin t m (pos j)) s q k a b l n h e is =
    let two : m * 2 ^ j * 2 ^ b ≡ q * 2 ^ a = halves (m * 2 ^ j) q k a b l (omega (arith, h.1)) e in
    omega (arith, ap (λ (z : ℕ). z * 5 ^ b) two, ap (λ (z : ℕ). m * 2 ^ j * z) (ten-parts b))
value-size (fin t m (negsuc j)) s q k a b l n h e is =
    let two : m * 2 ^ b ≡ q * 2 ^ suc j * 2 ^ a = halves m (q * 2 ^ suc j) k a b l (omega (arith, h.1)) e in
    omega (arith, ap (λ (z : ℕ). z * 10 ^ suc j) is, ap (λ (z : ℕ). q * 2 ^ a * 5 ^ b * z) (ten-parts (suc j)), ap (λ (z : ℕ). m * 5 ^ suc j * z) (ten-parts b), ap (λ (z : ℕ). z * (5 ^ b * 5 ^ suc j)) two)

pub pattern-size : (bits q k s t n : ℕ) → float_is_finite (from_bits binary64 bits) ≡ true → q ≡ bits % 4503599627370496 + 4503599627370496 * min (bits % 9223372036854775808 / 4503599627370496) 1 → k ≡ bits % 9223372036854775808 / 4503599627370496 - 1 → s ≡ k - 1074 → t ≡ 1074 - k → n ≡ q * 2 ^ (s + 18) * 5 ^ (t + 18) → IsSize (from_bits binary64 bits) n (t + 18)
unfolding of_bits
pattern-size bits q k s t n finite q-is k-is s-is t-is is =
    let sign = leb (top binary64) bits in
    let x = bits % 9223372036854775808 / 4503599627370496 in
    let h : HasValue (of_fields binary64 sign x (bits % 4503599627370496)) sign (q * 2 ^ k) (2 ^ 1074) =
    subst (λ (a : ℕ). HasValue (of_fields binary64 sign x (bits % 4503599627370496)) sign a (2 ^ 1074)) (sym (ap₂ (λ (a e : ℕ). a * 2 ^ e) q-is k-is)) (fields sign x (bits % 4503599627370496) finite) in
    value-size (of_fields binary64 sign x (bits % 4503599627370496)) sign q k (s + 18) (t + 18) 1074 n h (omega arith) is

-- ---- how large it may be, and how small
pub size-fits : (q k : ℕ) → q ≤ 9007199254740992 → k ≤ 2046 → q * 2 ^ (k - 1074 + 18) * 5 ^ (1074 - k + 18) < 10 ^ 785
size-fits q k h l =
    elim (cases_lt k 1074) [
      | inl less ↦
          let two : 2 ^ (k - 1074 + 18) ≤ 2 ^ 18 = pow-le-pow_right {n = 2} (omega arith) {i = k - 1074 + 18} {j = 18} (omega arith) in
          let five : 5 ^ (1074 - k + 18) ≤ 5 ^ 1092 = pow-le-pow_right {n = 5} (omega arith) {i = 1074 - k + 18} {j = 1092} (omega arith) in
          let most : q * 2 ^ (k - 1074 + 18) * 5 ^ (1074 - k + 18) ≤ 9007199254740992 * 2 ^ 18 * 5 ^ 1092 = mul-le-mul (mul-le-mul h two) five in
          lt_of_le_of_lt most (lit< tt)
      | inr more ↦
          let two : 2 ^ (k - 1074 + 18) ≤ 2 ^ 990 = pow-le-pow_right {n = 2} (omega arith) {i = k - 1074 + 18} {j = 990} (omega arith) in
          let five : 5 ^ (1074 - k + 18) ≤ 5 ^ 18 = pow-le-pow_right {n = 5} (omega arith) {i = 1074 - k + 18} {j = 18} (omega arith) in
          let most : q * 2 ^ (k - 1074 + 18) * 5 ^ (1074 - k + 18) ≤ 9007199254740992 * 2 ^ 990 * 5 ^ 18 = mul-le-mul (mul-le-mul h two) five in
          lt_of_le_of_lt most (lit< tt)
    ]

pub first-fits : (q k : ℕ) → q ≤ 9007199254740992 → k ≤ 2046 → q * 2 ^ (k - 1074 + 18) < 10 ^ 785
first-fits q k h l =
    let x = q * 2 ^ (k - 1074 + 18) in
    let more : x * 1 ≤ x * 5 ^ (1074 - k + 18) = mul-le-mul_left x (one-le-pow (1074 - k + 18) 5 (omega arith)) in
    lt_of_le_of_lt (subst (λ (z : ℕ). z ≤ x * 5 ^ (1074 - k + 18)) (mul-one x) more) (size-fits q k h l)

pub first-room : (n q k s : ℕ) → n ≡ q → s ≡ k - 1074 → q ≤ 9007199254740992 → k ≤ 2046 → n * 2 ^ (s + 18) < 10 ^ 785
first-room n q k s e f h l = subst₂ (λ (a b : ℕ). a * 2 ^ (b + 18) < 10 ^ 785) (sym e) (sym f) (first-fits q k h l)

pub second-room : (m n q k s t : ℕ) → m ≡ n * 2 ^ (s + 18) → n ≡ q → s ≡ k - 1074 → t ≡ 1074 - k → q ≤ 9007199254740992 → k ≤ 2046 → m * 5 ^ (t + 18) < 10 ^ 785
second-room m n q k s t is e f g h l =
    let mid : m ≡ q * 2 ^ (k - 1074 + 18) = is ∙ ap₂ (λ (a b : ℕ). a * 2 ^ (b + 18)) e f in
    subst₂ (λ (a b : ℕ). a * 5 ^ (b + 18) < 10 ^ 785) (sym mid) (sym g) (size-fits q k h l)

pub size-count : (ds : List ℕ) (q a b : ℕ) → AreDigits ds (q * 2 ^ (a + 18) * 5 ^ (b + 18)) → 0 < length ds → 18 < length ds
size-count ds q a b are some =
    elim (eq-zero-or-pos q) [
      | inl none ↦ absurd (omega (arith, are.high some, ten-pos (length ds), ap (λ (z : ℕ). z * 2 ^ (a + 18) * 5 ^ (b + 18)) none))
      | inr more ↦
          let low : 1 * 2 ^ 18 * 5 ^ 18 ≤ q * 2 ^ (a + 18) * 5 ^ (b + 18) = mul-le-mul (mul-le-mul more (pow-le-pow_right {n = 2} (omega arith) {i = 18} {j = a + 18} (omega arith))) (pow-le-pow_right {n = 5} (omega arith) {i = 18} {j = b + 18} (omega arith)) in
          let least : 10 ^ 18 ≤ number_of ds = omega (arith, low, are.value) in
          ten-less 18 (length ds) (omega (arith, number-less ds are.below))
    ]

-- ---- a number that is at most 10 ^ 16, or as far from zero as a format has no exponent for
units-up-to : (m l : ℕ) (z : ℤ) → m * up z ≤ l * down z → exact_units m z ≤ l * 10 ^ exact_places z
units-up-to m l (pos k) h = omega arith
units-up-to m l (negsuc k) h =
    omega (arith, mul-le-mul_right (5 ^ suc k) h, ap (λ (y : ℕ). l * y) (ten-parts (suc k)))

pub up-to-fits : (x : Float) (n q p : ℕ) → IsSize x n q → IsUpTo 10000000000000000 x → p ≤ 3 → 18 ≤ q → n < 10 ^ (q - p + 20)
up-to-fits nan n q p h u few l = absurd h
up-to-fits (inf s) n q p h u few l = absurd h
up-to-fits (fin s m z) n q p h u few l =
    let w = 10 ^ exact_places z in
    let units : exact_units m z ≤ 10000000000000000 * w = units-up-to m 10000000000000000 z u in
    let scaled : n * w ≤ 10000000000000000 * 10 ^ q * w = omega (arith, h, mul-le-mul_right (10 ^ q) units) in
    let most : n ≤ 10000000000000000 * 10 ^ q = le_of_mul-le-mul_right scaled (ten-pos (exact_places z)) in
    let more : 10 ^ (q + 17) ≤ 10 ^ (q - p + 20) = pow-le-pow_right {n = 10} (omega arith) {i = q + 17} {j = q - p + 20} (omega arith) in
    omega (arith, pow-add 10 q 17, ten-pos q)

whole-float : whole_in binary64 99999999 ≡ fin false 99999999 (pos 0)
unfolding of_int
whole-float = refl

whole-double : whole_in binary64 10000000000000000 ≡ fin false 152587890625 (pos 16)
unfolding of_int
whole-double = refl

limit-is : (n j l m : ℕ) (z : ℤ) → n * 2 ^ j ≤ l → lt (fin false n (pos j)) (fin false m z) ≡ false → m * up z ≤ l * down z
unfolding lt
limit-is n j l m z h e = omega (arith, ltb-false (n * 2 ^ j * down z) (m * up z * 1) e, mul-le-mul_right (down z) h)

pub up-to-limit : (f : Format) (x : Float) → lt (whole_in binary64 (fixed_limit f)) (float_with_sign false x) ≡ false → IsUpTo 10000000000000000 x
unfolding float_with_sign
up-to-limit f nan e = tt
up-to-limit f (inf s) e = tt
up-to-limit binary32 (fin s m z) e = limit-is 99999999 0 10000000000000000 m z (omega arith) (subst (λ (w : Float). lt w (fin false m z) ≡ false) whole-float e)
up-to-limit binary64 (fin s m z) e = limit-is 152587890625 16 10000000000000000 m z (omega arith) (subst (λ (w : Float). lt w (fin false m z) ≡ false) whole-double e)

-- ---- a size as a text, by its kind
pub nan-text : (t : ℕ → ℕ → List ℕ) (x : Float) → is_nan x ≡ true → size_text t x ≡ 110 ∷ 97 ∷ 110 ∷ []
unfolding is_nan
nan-text t nan h = refl
nan-text t (inf s) h = cc
nan-text t (fin s m z) h = cc

pub inf-text : (t : ℕ → ℕ → List ℕ) (x : Float) → float_is_infinite x ≡ true → size_text t x ≡ 105 ∷ 110 ∷ 102 ∷ []
unfolding float_is_infinite
inf-text t nan h = cc
inf-text t (inf s) h = refl
inf-text t (fin s m z) h = cc

pub is-finite : (x : Float) → is_nan x ≡ false → float_is_infinite x ≡ false → float_is_finite x ≡ true
unfolding is_nan float_is_infinite float_is_finite
is-finite nan h e = cc
is-finite (inf s) h e = cc
is-finite (fin s m z) h e = refl

pub finite-text : (t : ℕ → ℕ → List ℕ) (x : Float) (n q : ℕ) → ((m s : ℕ) → n * 10 ^ s ≡ m * 10 ^ q → t m s ≡ t n q) → IsSize x n q → size_text t x ≡ t n q
finite-text t nan n q same h = absurd h
finite-text t (inf s) n q same h = absurd h
finite-text t (fin s m z) n q same h = same (exact_units m z) (exact_places z) h
