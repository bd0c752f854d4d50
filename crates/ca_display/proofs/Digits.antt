-- Decimal digits, the lowest first, and the number that they are.
use Rattle.std.proofs.Common.{◌≡◌, ℕ, zero, suc, ◌+◌, ◌-◌, ◌*◌, ◌/◌, ◌%◌, ◌^◌, ◌≤◌, ◌<◌, ◌⊎◌, Bool, true, false, ◌&&◌, ◌==◌, List, [], ◌∷◌, ◌++◌, length, get_or, take, drop, refl, sym, ap, subst, ◌∙◌, arith, inl, inr, pow-suc, pow-add, add-one, drop-cons, length-append, length-take, div-add-mod', mul-le-mul_left, mul-le-mul_right, lt_of_not-le, lt_of_le_of_lt, le_trans, lit<, eqb-true}
use Rattle.std.proofs.lemmas.List.{take_more}
use Rattle.std.specs.List.{list_all}
use Rattle.std.specs.Int.Digits.{AllBelowBase}
use borrow.Author.Tests.{eqb-false}
use native.Mathlib.Nat.{one-le-pow, pow-le-pow_left, pow-le-pow_right}
use Rattle.ca_display.specs.Exact.{number_of, with_above, AreDigits}

pub ten-pos : (k : ℕ) → 0 < 10 ^ k
ten-pos k = one-le-pow k 10 (omega arith)

pub ten-less : (a b : ℕ) → 10 ^ a < 10 ^ b → a < b
ten-less a b h = lt_of_not-le (λ (l : b ≤ a). let m : 10 ^ b ≤ 10 ^ a = pow-le-pow_right {n = 10} (omega arith) l in omega arith)

pub number-push : (ds : List ℕ) (d : ℕ) → number_of (ds ++ d ∷ []) ≡ number_of ds + d * 10 ^ length ds
number-push [] d = omega arith
number-push (x ∷ xs) d = omega (arith, number-push xs d, ap (λ (z : ℕ). d * z) (pow-suc 10 (length xs)))

pub below-push : (ds : List ℕ) (d : ℕ) → AllBelowBase 10 ds → d < 10 → AllBelowBase 10 (ds ++ d ∷ [])
below-push [] d h l = (l, tt)
below-push (x ∷ xs) d h l = (h.0, below-push xs d h.1 l)

pub number-less : (ds : List ℕ) → AllBelowBase 10 ds → number_of ds < 10 ^ length ds
number-less [] h = omega arith
number-less (x ∷ xs) h = omega (arith, number-less xs h.1, h.0, pow-suc 10 (length xs))

pub no-number : (ds : List ℕ) → length ds ≡ 0 → number_of ds ≡ 0
no-number [] h = refl
no-number (x ∷ xs) h = absurd (omega arith)

pub below-take : (i : ℕ) (ds : List ℕ) → AllBelowBase 10 ds → AllBelowBase 10 (take i ds)
below-take zero ds h = tt
below-take (suc i) [] h = tt
below-take (suc i) (x ∷ xs) h = (h.0, below-take i xs h.1)

pub below-at : (ds : List ℕ) (i : ℕ) → AllBelowBase 10 ds → i < length ds → get_or ds i 0 < 10
below-at [] i h l = absurd (omega arith)
below-at (x ∷ xs) zero h l = h.0
below-at (x ∷ xs) (suc i) h l = below-at xs i h.1 (omega arith)

pub number-split : (i : ℕ) (ds : List ℕ) → i ≤ length ds → number_of ds ≡ number_of (take i ds) + 10 ^ i * number_of (drop i ds)
number-split zero ds h = omega arith
number-split (suc i) [] h = absurd (omega arith)
number-split (suc i) (x ∷ xs) h =
    omega (arith, number-split i xs (omega arith), ap (λ (z : ℕ). z * number_of (drop i xs)) (pow-suc 10 i))

-- a number's head is no more than it
pub drop-le : (i : ℕ) (ds : List ℕ) → i ≤ length ds → number_of (drop i ds) ≤ number_of ds
drop-le i ds h =
    omega (arith, number-split i ds h, mul-le-mul_right (number_of (drop i ds)) (ten-pos i))

-- one digit more, from the highest on
pub drop-step : (ds : List ℕ) (i n : ℕ) → 0 < i → i ≤ length ds → n ≡ number_of (drop i ds) → n * 10 + get_or ds (i - 1) 0 ≡ number_of (drop (i - 1) ds)
drop-step ds i n some within is =
    let here : suc (i - 1) ≡ i = omega arith in
    let step : number_of (drop (i - 1) ds) ≡ get_or ds (i - 1) 0 + 10 * number_of (drop (suc (i - 1)) ds) = ap number_of (drop-cons ds (i - 1) 0 (omega arith)) in
    omega (arith, step, is, ap (λ (k : ℕ). number_of (drop k ds)) here)

both : (a b : Bool) → (a && b) ≡ true → (a ≡ true) × (b ≡ true)
both true b h = (refl, h)
both false b h = cc

either : (a b : Bool) → (a && b) ≡ false → (a ≡ false) ⊎ (b ≡ false)
either true b h = inr h
either false b h = inl refl

pub all-zeros : (ds : List ℕ) → list_all (λ d. d == 0) ds ≡ true → number_of ds ≡ 0
all-zeros [] h = refl
all-zeros (x ∷ xs) h =
    let b = both (x == 0) (list_all (λ d. d == 0) xs) h in omega (arith, eqb-true x 0 b.0, all-zeros xs b.1)

pub not-zeros : (ds : List ℕ) → list_all (λ d. d == 0) ds ≡ false → 0 < number_of ds
not-zeros [] h = cc
not-zeros (x ∷ xs) h =
    elim (either (x == 0) (list_all (λ d. d == 0) xs) h) [
      | inl e ↦ let some : x ≡ 0 → ⊥ = eqb-false x 0 e in omega arith
      | inr e ↦ omega (arith, not-zeros xs e)
    ]

-- ---- a number put above digits, digit by digit
pub above-step : (ds : List ℕ) (n : ℕ) → with_above (ds ++ n % 10 ∷ []) (n / 10) ≡ with_above ds n
above-step ds n =
    let p = 10 ^ length ds in
    let size : 10 ^ length (ds ++ n % 10 ∷ []) ≡ p * 10 = ap (λ (k : ℕ). 10 ^ k) (length-append ds (n % 10 ∷ []) ∙ add-one (length ds)) ∙ pow-suc 10 (length ds) in
    omega (arith, number-push ds (n % 10), ap (λ (z : ℕ). n / 10 * z) size, ap (λ (z : ℕ). z * p) (div-add-mod' n 10))

-- what is above is below the number, so that there is room
pub above-room : (ds : List ℕ) (n k : ℕ) → 0 < n → with_above ds n < 10 ^ k → length ds < k
above-room ds n k some h =
    let least : 1 * 10 ^ length ds ≤ n * 10 ^ length ds = mul-le-mul_right (10 ^ length ds) some in
    ten-less (length ds) k (omega arith)

pub above-high : (ds : List ℕ) (n d : ℕ) → 0 < n → 10 ^ length (ds ++ d ∷ []) ≤ 10 * with_above ds n
above-high ds n d some =
    let least : 1 * 10 ^ length ds ≤ n * 10 ^ length ds = mul-le-mul_right (10 ^ length ds) some in
    let size : 10 ^ length (ds ++ d ∷ []) ≡ 10 ^ length ds * 10 = ap (λ (k : ℕ). 10 ^ k) (length-append ds (d ∷ []) ∙ add-one (length ds)) ∙ pow-suc 10 (length ds) in
    omega arith

-- ---- a product, digit by digit
pub times-step : (xs ds : List ℕ) (i c f : ℕ) → i < length ds → length xs ≡ i → with_above xs c ≡ number_of (take i ds) * f → with_above (xs ++ (c + get_or ds i 0 * f) % 10 ∷ []) ((c + get_or ds i 0 * f) / 10) ≡ number_of (take (i + 1) ds) * f
times-step xs ds i c f l is h =
    let d = get_or ds i 0 in
    let t = c + d * f in
    let taken : length (take i ds) ≡ i = length-take i ds ∙ omega arith in
    let more : number_of (take (i + 1) ds) ≡ number_of (take i ds) + d * 10 ^ i = ap number_of (take_more ds i 0 l) ∙ number-push (take i ds) d ∙ ap (λ (k : ℕ). number_of (take i ds) + d * 10 ^ k) taken in
    let above : with_above xs t ≡ with_above xs c + d * f * 10 ^ i = subst (λ (k : ℕ). number_of xs + t * 10 ^ k ≡ number_of xs + c * 10 ^ k + d * f * 10 ^ i) (sym is) (omega arith) in
    above-step xs t ∙ above ∙ ap (λ (z : ℕ). z + d * f * 10 ^ i) h ∙ omega (arith, ap (λ (z : ℕ). z * f) (sym more))

pub digit-fits : (c d f : ℕ) → c ≤ f → d < 10 → c + d * f ≤ 10 * f
digit-fits c d f h l = let nine : d ≤ 9 = omega arith in omega (arith, mul-le-mul_right f nine)

-- ---- a product with a power, a few factors at once
pub power-step : (n b e s : ℕ) → s ≤ e → n * b ^ s * b ^ (e - s) ≡ n * b ^ e
power-step n b e s h =
    let parts : b ^ s * b ^ (e - s) ≡ b ^ e = sym (pow-add b s (e - s)) ∙ ap (λ (k : ℕ). b ^ k) (omega arith) in
    omega (arith, ap (λ (z : ℕ). n * z) parts)

pub power-fits : (n b e s k : ℕ) → 0 < b → s ≤ e → n * b ^ e < k → n * b ^ s < k
power-fits n b e s k some h l =
    omega (arith, power-step n b e s h, mul-le-mul_left (n * b ^ s) (one-le-pow (e - s) b some))

-- ---- what a loop keeps
pub own-digits : (ds : List ℕ) (n : ℕ) → AreDigits ds n → AreDigits ds (number_of ds)
own-digits ds n are = subst (λ (m : ℕ). AreDigits ds m) (sym are.value) are

pub put-all : (ds : List ℕ) (n t : ℕ) → n ≤ 0 → AllBelowBase 10 ds → with_above ds n ≡ t → (0 < length ds → 10 ^ length ds ≤ 10 * t) → AreDigits ds t
put-all ds n t none below same high =
    let zero' : n ≡ 0 = omega arith in
    record { below = below; value = omega (arith, same, ap (λ (z : ℕ). z * 10 ^ length ds) zero'); high = high }

pub factor-less : (b s : ℕ) → b ≤ 5 → s ≤ 25 → b ^ s < 2 ^ 60
factor-less b s h l =
    lt_of_le_of_lt (le_trans (pow-le-pow_left {n = b} {m = 5} h s) (pow-le-pow_right {n = 5} (omega arith) {j = 25} l)) (lit< tt)

pub start-value : (ds es : List ℕ) (n : ℕ) → es ≡ [] → AreDigits ds (with_above es n) → number_of ds ≡ n
start-value ds es n e are = are.value ∙ ap (λ (xs : List ℕ). with_above xs n) e ∙ omega arith
