-- Decimals rounded off: the same number as other units, and digits cut off.
use Rattle.std.proofs.Common.{◌≡◌, ℕ, zero, suc, ◌+◌, ◌-◌, ◌*◌, ◌/◌, ◌%◌, ◌^◌, ◌≤◌, ◌<◌, min, Bool, cond, ◌==◌, List, ◌∷◌, ◌++◌, length, take, drop, refl, sym, ap, ap₂, subst, ◌∙◌, arith, inl, inr, pow-suc, pow-add, mul-pos, mul-le-mul_left, mul-le-mul_right, mul-lt-mul_of_pos_right, length-take, drop_of_length-le, div-add-mod', lt_of_lt_of_le, lt_trans, lit<, lt_of_not-le, ne_eqb, eq-eqb, lt-ltb, le-ltb, eq-zero-or-pos}
use Rattle.std.proofs.lemmas.Bool.{cases_lt, cases_order}
use Rattle.std.proofs.lemmas.Nat.{div-mul-add, mod-mul-add}
use Rattle.std.proofs.lemmas.Int.Digits.{number_digits_of, number_lt, all_below_base_digits_of, length-digits_of-le}
use Rattle.std.specs.Int.Digits.{AllBelowBase, digits_of}
use Prim.Native.Nat.{compare, Ordering}
use native.Mathlib.Nat.{pow-le-pow_right, eq_of_mul-eq-mul_right}
use native.Mathlib.Omega.{compare-lt, compare-eq, compare-gt}
use lib.Ieee.{nearest}
use lib.Ieee.Nearest.{closest, closest_same}
use Rattle.ca_display.specs.Decimal.{padded_digits, point_text, fixed_text, digit_count, exponent_text, rounded_text, scientific_text}
use Rattle.ca_display.specs.Exact.{number_of, AreDigits, CanRound}
use Rattle.ca_display.proofs.Digits.{no-number, ten-pos, ten-less, number-less, number-split, below-take}

-- ---- places more or fewer
pub closest-shift : (n p q : ℕ) → p ≤ q → closest (n * 10 ^ p) (10 ^ q) ≡ closest n (10 ^ (q - p))
closest-shift n p q h =
    let parts : 10 ^ p * 10 ^ (q - p) ≡ 10 ^ q = sym (pow-add 10 p (q - p)) ∙ ap (λ (k : ℕ). 10 ^ k) (omega arith) in
    closest_same (n * 10 ^ p) (10 ^ q) n (10 ^ (q - p)) (ten-pos q) (ten-pos (q - p)) (omega (arith, ap (λ (z : ℕ). n * z) parts))

-- ---- the last digits cut off
order-is : (q x b n : ℕ) → (x < b → n ≡ q) → (x ≡ b → n ≡ q + q % 2) → (b < x → n ≡ suc q) → n ≡ nearest q (compare x b)
order-is q x b n below same above = go (compare x b) refl
  where
    go : (o : Ordering) → compare x b ≡ o → n ≡ nearest q o
    go Ordering.lt e = below (compare-lt x b e)
    go Ordering.eq e = same (compare-eq x b e)
    go Ordering.gt e = above (compare-gt x b e)

-- a rest r below b, and a last digit l: below a half of ten, a half, or above it
near : (b r l q n : ℕ) → r < b → (l < 5 → n ≡ q) → (l ≡ 5 → r ≡ 0 → n ≡ q + q % 2) → (l ≡ 5 → 0 < r → n ≡ suc q) → (5 < l → n ≡ suc q) → n ≡ nearest q (compare ((r + b * l) * 2) (b * 10))
near b r l q n small below half over above =
    let x = (r + b * l) * 2 in
    elim (cases_order l 5) [
      | inl five ↦
          let m : b * l ≡ b * 5 = ap (λ (z : ℕ). b * z) five in
          elim (eq-zero-or-pos r) [
            | inl none ↦ order-is q x (b * 10) n (λ h. absurd (omega arith)) (λ h. half five none) (λ h. absurd (omega arith))
            | inr some ↦ order-is q x (b * 10) n (λ h. absurd (omega arith)) (λ h. absurd (omega arith)) (λ h. over five some)
          ]
      | inr other ↦ elim other [
        | inl less ↦
            let four : l ≤ 4 = omega arith in
            let m : b * l ≤ b * 4 = mul-le-mul_left b four in
            order-is q x (b * 10) n (λ h. below less) (λ h. absurd (omega arith)) (λ h. absurd (omega arith))
        | inr more ↦
            let m : b * 6 ≤ b * l = mul-le-mul_left b more in
            order-is q x (b * 10) n (λ h. absurd (omega arith)) (λ h. absurd (omega arith)) (λ h. above more)
      ]
    ]

-- a number's head h and rest r, of which the head's last digit is cut off
pub cut-off : (b r h n : ℕ) → r < b → (h % 10 < 5 → n ≡ h / 10) → (h % 10 ≡ 5 → r ≡ 0 → n ≡ h / 10 + h / 10 % 2) → (h % 10 ≡ 5 → 0 < r → n ≡ suc (h / 10)) → (5 < h % 10 → n ≡ suc (h / 10)) → n ≡ closest (r + b * h) (b * 10)
cut-off b r h n small below half over above =
    let l = h % 10 in
    let q = h / 10 in
    let nine : l ≤ 9 = omega arith in
    let left : b * l ≤ b * 9 = mul-le-mul_left b nine in
    let fits : r + b * l < b * 10 = omega arith in
    let parts : r + b * h ≡ q * (b * 10) + (r + b * l) = omega (arith, ap (λ (z : ℕ). b * z) (div-add-mod' h 10)) in
    let whole : (r + b * h) / (b * 10) ≡ q = ap (λ (z : ℕ). z / (b * 10)) parts ∙ div-mul-add q (b * 10) (r + b * l) fits in
    let rest : (r + b * h) % (b * 10) ≡ r + b * l = ap (λ (z : ℕ). z % (b * 10)) parts ∙ mod-mul-add q (b * 10) (r + b * l) fits in
    near b r l q n small below half over above ∙ sym (ap₂ (λ (a m : ℕ). nearest a (compare (m * 2) (b * 10))) whole rest)

-- digits split before the last one that is cut off
pub rest-less : (ds : List ℕ) (k : ℕ) → AllBelowBase 10 ds → number_of (take (min (length ds) k) ds) < 10 ^ k
rest-less ds k h =
    let i = min (length ds) k in
    let size : length (take i ds) ≤ k = omega (arith, length-take i ds) in
    lt_of_lt_of_le (number-less (take i ds) (below-take i ds h)) (pow-le-pow_right {n = 10} (omega arith) size)

pub rest-split : (ds : List ℕ) (k : ℕ) → number_of ds ≡ number_of (take (min (length ds) k) ds) + 10 ^ k * number_of (drop (min (length ds) k) ds)
rest-split ds k =
    let i = min (length ds) k in
    let parts : number_of ds ≡ number_of (take i ds) + 10 ^ i * number_of (drop i ds) = number-split i ds (omega arith) in
    elim (cases_lt k (length ds)) [
      | inl more ↦ parts ∙ ap (λ (z : ℕ). number_of (take i ds) + 10 ^ z * number_of (drop i ds)) (omega arith)
      | inr all ↦
          let none : number_of (drop i ds) ≡ 0 = ap number_of (drop_of_length-le ds {i = i} (omega arith)) in
          omega (arith, parts, ap (λ (z : ℕ). 10 ^ i * z) none, ap (λ (z : ℕ). 10 ^ k * z) none)
    ]

-- a head has as many digits more as the number may have
pub head-less : (d r b h k : ℕ) → d ≡ r + b * h → d < b * k → h < k
head-less d r b h k is l =
    lt_of_not-le (λ (m : k ≤ h). let n : b * k ≤ b * h = mul-le-mul_left b m in omega arith)

pub head-fits : (xs ds head : List ℕ) (d i : ℕ) → xs ≡ ds → 0 < d → i ≡ min (length xs) (d - 1) → head ≡ drop i xs → number_of ds < 10 ^ (d + 20) → number_of head < 2 ^ 128
head-fits xs ds head d i e some is-i is-head h =
    let b = 10 ^ (d - 1) in
    let same : drop i xs ≡ drop (min (length ds) (d - 1)) ds = ap₂ (λ (k : ℕ) (l : List ℕ). drop k l) (is-i ∙ ap (λ (l : List ℕ). min (length l) (d - 1)) e) e in
    let power : 10 ^ (d + 20) ≡ b * 10 ^ 21 = ap (λ (k : ℕ). 10 ^ k) (omega arith) ∙ pow-add 10 (d - 1) 21 in
    let less : number_of (drop (min (length ds) (d - 1)) ds) < 10 ^ 21 = head-less (number_of ds) (number_of (take (min (length ds) (d - 1)) ds)) b (number_of (drop (min (length ds) (d - 1)) ds)) (10 ^ 21) (rest-split ds (d - 1)) (subst (λ (z : ℕ). number_of ds < z) power h) in
    lt_trans (subst (λ (l : List ℕ). number_of l < 10 ^ 21) (sym (is-head ∙ same)) less) (lit< tt)

pub digits-off : (xs ds rest head : List ℕ) (d i h n : ℕ) → xs ≡ ds → AllBelowBase 10 ds → 0 < d → i ≡ min (length xs) (d - 1) → rest ≡ take i xs → head ≡ drop i xs → h ≡ number_of head → (h % 10 < 5 → n ≡ h / 10) → (h % 10 ≡ 5 → number_of rest ≡ 0 → n ≡ h / 10 + h / 10 % 2) → (h % 10 ≡ 5 → 0 < number_of rest → n ≡ suc (h / 10)) → (5 < h % 10 → n ≡ suc (h / 10)) → n ≡ closest (number_of ds) (10 ^ d)
digits-off xs ds rest head d i h n e below some is-i is-rest is-head is-h low half over high =
    let k = min (length ds) (d - 1) in
    let b = 10 ^ (d - 1) in
    let place : i ≡ k = is-i ∙ ap (λ (l : List ℕ). min (length l) (d - 1)) e in
    let rests : rest ≡ take k ds = is-rest ∙ ap₂ (λ (j : ℕ) (l : List ℕ). take j l) place e in
    let heads : h ≡ number_of (drop k ds) = is-h ∙ ap number_of (is-head ∙ ap₂ (λ (j : ℕ) (l : List ℕ). drop j l) place e) in
    let parts : number_of rest + b * h ≡ number_of ds = ap₂ (λ (x y : ℕ). x + b * y) (ap number_of rests) heads ∙ sym (rest-split ds (d - 1)) in
    let power : b * 10 ≡ 10 ^ d = sym (pow-suc 10 (d - 1)) ∙ ap (λ (j : ℕ). 10 ^ j) (omega arith) in
    let small : number_of rest < b = subst (λ (l : List ℕ). number_of l < b) (sym rests) (rest-less ds (d - 1) below) in
    cut-off b (number_of rest) h n small low half over high ∙ ap₂ (λ (x y : ℕ). closest x y) parts power

-- ---- how many digits a number has
pub digits-below : (n : ℕ) → n < 10 ^ length (digits_of 10 n)
digits-below n =
    subst (λ (k : ℕ). k < 10 ^ length (digits_of 10 n)) (number_digits_of 10 n (omega arith))
    (number_lt 10 (digits_of 10 n) (all_below_base_digits_of 10 n (omega arith)))

pub digits-high : (n : ℕ) → 0 < n → 10 ^ length (digits_of 10 n) ≤ 10 * n
digits-high n some = go (length (digits_of 10 n)) refl
  where
    go : (l : ℕ) → length (digits_of 10 n) ≡ l → 10 ^ l ≤ 10 * n
    go zero e = omega arith
    go (suc k) e =
        elim (cases_lt (10 * n) (10 ^ suc k)) [
          | inl h ↦
              let small : n < 10 ^ k = omega (arith, pow-suc 10 k) in
              absurd (omega (arith, length-digits_of-le 10 k n (omega arith) small))
          | inr h ↦ h
        ]

-- two numbers of units, where a * 10 ^ s and b * 10 ^ q are one number
order-le : (n m a b q s : ℕ) → 10 ^ a ≤ 10 * n → m < 10 ^ b → n * 10 ^ s ≡ m * 10 ^ q → a + s ≤ b + q
order-le n m a b q s high low same =
    let left : 10 ^ a * 10 ^ s ≤ 10 * n * 10 ^ s = mul-le-mul_right (10 ^ s) high in
    let right : m * 10 ^ q < 10 ^ b * 10 ^ q = mul-lt-mul_of_pos_right low (ten-pos q) in
    let below : 10 ^ (a + s) < 10 ^ suc (b + q) = omega (arith, pow-add 10 a s, pow-add 10 b q, pow-suc 10 (b + q)) in
    omega (arith, ten-less (a + s) (suc (b + q)) below)

pub count-some : (n q : ℕ) → 0 < n → digit_count n q ≡ length (digits_of 10 n)
count-some n q some = ap (λ (b : Bool). cond b (suc q) (length (digits_of 10 n))) (ne_eqb n 0 (λ (e : n ≡ 0). omega arith))

pub count-none : (n q : ℕ) → n ≡ 0 → digit_count n q ≡ suc q
count-none n q none = ap (λ (b : Bool). cond b (suc q) (length (digits_of 10 n))) (eq-eqb n 0 none)

pub count-of-digits : (ds : List ℕ) (n q : ℕ) → AreDigits ds n → 0 < length ds → length ds ≡ digit_count n q
count-of-digits ds n q are some =
    let l = length (digits_of 10 n) in
    let more : 0 < n = omega (arith, are.high some, ten-pos (length ds)) in
    let less : n < 10 ^ length ds = omega (arith, number-less ds are.below, are.value) in
    let up : length ds + 0 ≤ l + 0 = order-le n n (length ds) l 0 0 (are.high some) (digits-below n) refl in
    let down : l + 0 ≤ length ds + 0 = order-le n n l (length ds) 0 0 (digits-high n more) less refl in
    omega (arith, count-some n q more)

-- ---- the same number in other units
exponent_of : Bool → ℕ → ℕ → List ℕ
exponent_of b x y = cond b (101 ∷ 43 ∷ padded_digits 2 x) (101 ∷ 45 ∷ padded_digits 2 y)

pub exponent-up : (c q : ℕ) → q < c → exponent_text c q ≡ 101 ∷ 43 ∷ padded_digits 2 (c - 1 - q)
unfolding exponent_of
exponent-up c q h = ap (λ (b : Bool). exponent_of b (c - 1 - q) (q + 1 - c)) (lt-ltb q c h)

pub exponent-down : (c q : ℕ) → c ≤ q → exponent_text c q ≡ 101 ∷ 45 ∷ padded_digits 2 (q + 1 - c)
unfolding exponent_of
exponent-down c q h = ap (λ (b : Bool). exponent_of b (c - 1 - q) (q + 1 - c)) (le-ltb q c h)

exponent-same : (c d s q : ℕ) → c + q ≡ d + s → exponent_text c s ≡ exponent_text d q
exponent-same c d s q e =
    elim (cases_lt s c) [
      | inl h ↦ exponent-up c s h ∙ ap (λ (z : ℕ). 101 ∷ 43 ∷ padded_digits 2 z) (omega arith) ∙ sym (exponent-up d q (omega arith))
      | inr h ↦ exponent-down c s h ∙ ap (λ (z : ℕ). 101 ∷ 45 ∷ padded_digits 2 z) (omega arith) ∙ sym (exponent-down d q (omega arith))
    ]

rounded-same : (p u c d s q : ℕ) → c + q ≡ d + s → rounded_text p u c s ≡ rounded_text p u d q
rounded-same p u c d s q e =
    ap₂ (λ (x y : List ℕ). cond (u == 10 ^ suc p) (point_text p (10 ^ p) ++ x) (point_text p u ++ y)) (exponent-same (suc c) (suc d) s q (omega arith)) (exponent-same c d s q e)

counts : (n m q s : ℕ) → n * 10 ^ s ≡ m * 10 ^ q → digit_count m s + q ≡ digit_count n q + s
counts n m q s same =
    elim (eq-zero-or-pos n) [
      | inl none ↦
          let nothing : m ≡ 0 = eq_of_mul-eq-mul_right (10 ^ q) (ten-pos q) m 0 (omega (arith, ap (λ (z : ℕ). z * 10 ^ s) none)) in
          omega (arith, count-none n q none, count-none m s nothing)
      | inr some ↦ elim (eq-zero-or-pos m) [
        | inl nothing ↦ absurd (omega (arith, mul-pos some (ten-pos s), ap (λ (z : ℕ). z * 10 ^ q) nothing))
        | inr more ↦
            let a = length (digits_of 10 n) in
            let b = length (digits_of 10 m) in
            let up : a + s ≤ b + q = order-le n m a b q s (digits-high n some) (digits-below m) same in
            let down : b + q ≤ a + s = order-le m n b a s q (digits-high m more) (digits-below n) (sym same) in
            omega (arith, count-some n q some, count-some m s more)
      ]
    ]

closest-same : (n m q s p c d : ℕ) → n * 10 ^ s ≡ m * 10 ^ q → c + q ≡ d + s → closest (m * 10 ^ p) (10 ^ c) ≡ closest (n * 10 ^ p) (10 ^ d)
closest-same n m q s p c d same e =
    let powers : 10 ^ c * 10 ^ q ≡ 10 ^ d * 10 ^ s = sym (pow-add 10 c q) ∙ ap (λ (k : ℕ). 10 ^ k) e ∙ pow-add 10 d s in
    let raised : m * 10 ^ d * 10 ^ q ≡ n * 10 ^ c * 10 ^ q = omega (arith, ap (λ (z : ℕ). z * 10 ^ d) same, ap (λ (z : ℕ). n * z) powers) in
    let equal : m * 10 ^ d ≡ n * 10 ^ c = eq_of_mul-eq-mul_right (10 ^ q) (ten-pos q) (m * 10 ^ d) (n * 10 ^ c) raised in
    closest_same (m * 10 ^ p) (10 ^ c) (n * 10 ^ p) (10 ^ d) (ten-pos c) (ten-pos d) (omega (arith, ap (λ (z : ℕ). z * 10 ^ p) equal))

pub fixed-same : (p n m q s : ℕ) → n * 10 ^ s ≡ m * 10 ^ q → fixed_text p m s ≡ fixed_text p n q
fixed-same p n m q s same = ap (point_text p) (closest-same n m q s p s q same (omega arith))

pub scientific-same : (p n m q s : ℕ) → n * 10 ^ s ≡ m * 10 ^ q → scientific_text p m s ≡ scientific_text p n q
scientific-same p n m q s same =
    let c = digit_count m s in
    let d = digit_count n q in
    let e : c + q ≡ d + s = counts n m q s same in
    rounded-same p (closest (m * 10 ^ suc p) (10 ^ c)) c d s q e
    ∙ ap (λ (u : ℕ). rounded_text p u d q) (closest-same n m q s (suc p) c d same e)

-- ---- rounded to one digit before the point
pub scientific-is : (p n q u : ℕ) → p < digit_count n q → u ≡ closest n (10 ^ (digit_count n q - p - 1)) → scientific_text p n q ≡ rounded_text p u (digit_count n q) q
scientific-is p n q u h is =
    let c = digit_count n q in
    ap (λ (v : ℕ). rounded_text p v c q) (closest-shift n (suc p) c h ∙ ap (λ (k : ℕ). closest n (10 ^ k)) (omega arith) ∙ sym is)

pub rounded-up : (p u c q : ℕ) → u ≡ 10 ^ suc p → rounded_text p u c q ≡ point_text p (10 ^ p) ++ exponent_text (suc c) q
rounded-up p u c q e =
    ap (λ (b : Bool). cond b (point_text p (10 ^ p) ++ exponent_text (suc c) q) (point_text p u ++ exponent_text c q)) (eq-eqb u (10 ^ suc p) e)

pub rounded-on : (p u c q : ℕ) → (u ≡ 10 ^ suc p → ⊥) → rounded_text p u c q ≡ point_text p u ++ exponent_text c q
rounded-on p u c q e =
    ap (λ (b : Bool). cond b (point_text p (10 ^ p) ++ exponent_text (suc c) q) (point_text p u ++ exponent_text c q)) (ne_eqb u (10 ^ suc p) e)

-- ---- what may be rounded
pub count-more : (ds : List ℕ) (q : ℕ) → CanRound ds q → 18 < digit_count (number_of ds) q
count-more ds q can =
    elim (eq-zero-or-pos (length ds)) [
      | inl none ↦ omega (arith, can.places, count-none (number_of ds) q (no-number ds none))
      | inr some ↦ omega (arith, can.count some, count-of-digits ds (number_of ds) q can.digits some)
    ]

pub count-fits : (ds : List ℕ) (q p : ℕ) → CanRound ds q → p ≤ 17 → number_of ds < 10 ^ (digit_count (number_of ds) q - p - 1 + 20)
count-fits ds q p can few =
    let c = digit_count (number_of ds) q in
    elim (eq-zero-or-pos (length ds)) [
      | inl none ↦ omega (arith, no-number ds none, ten-pos (c - p - 1 + 20))
      | inr some ↦
          let less : number_of ds < 10 ^ length ds = number-less ds can.digits.below in
          let more : 10 ^ length ds ≤ 10 ^ (c - p - 1 + 20) = pow-le-pow_right {n = 10} (omega arith) (omega (arith, count-of-digits ds (number_of ds) q can.digits some)) in
          lt_of_lt_of_le less more
    ]
