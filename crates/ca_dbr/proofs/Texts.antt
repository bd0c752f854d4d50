-- A text is read as the number that it writes, and a number's own text as that number.
use Rattle.std.proofs.Common.{◌≡◌, ℕ, zero, suc, ◌+◌, ◌-◌, ◌^◌, ◌<◌, ◌≤◌, Bool, true, false, not, cond, eqb, nat_lt, ◌&&◌, List, [], ◌∷◌, ◌++◌, length, get_or, take, drop, replicate, Option, Some, None, refl, sym, ap, ◌∙◌, arith, one-add, ℤ, pos, negsuc, neg_ℤ}
use Rattle.std.specs.Prelude.{option_map}
use Rattle.std.specs.Char.{is_ascii_digit}
use Rattle.std.specs.Fmt.{decimal, signed_decimal}
use Rattle.std.specs.List.{prefix_len, list_all}
use Rattle.std.specs.Int.Signed.{mag}
use Rattle.std.proofs.lemmas.Bool.{ne_eqb, eqb-true, false≢true, ltb-true}
use Rattle.std.proofs.lemmas.Bool.Decides.{nat_tests}
use Rattle.std.proofs.lemmas.Fmt.{decimal_is_IsNumeral, length_signed_le}
use Rattle.std.proofs.lemmas.List.{take_at, drop_at, append-nil, length-append, length-replicate, get_or_append_left, get_or-append-add, get_or-replicate, take-append-drop, length-take-le, get_or-take}
use Rattle.std.proofs.lemmas.List.Sums.{prefix_len_is, prefix_len_passes, prefix_len-le-length}
use Rattle.std.proofs.lemmas.Str.Parse.{digit_at}
use Rattle.ca_dbr.specs.Number.{text_of, is_space, digits_number, unsigned_in, signed_in, number_in, number_text, IsNumberText, spaces}
use Rattle.ca_dbr.proofs.Numbers.{prefix_all, digits_number-value, unsigned_whole, digit_range}

at_end : (n : ℕ) → n ≡ n + 0
at_end n = omega arith

-- a front that passes, before what does not
prefix_front : (p : ℕ → Bool) (front rest : List ℕ) → ((k : ℕ) → k < length front → p (get_or front k 0) ≡ true) → p (get_or rest 0 0) ≡ false → prefix_len p (front ++ rest) ≡ length front
prefix_front p front rest each stop =
    prefix_len_is p (front ++ rest) (length front) 0 (omega (arith, length-append front rest)) (λ k h. ap p (get_or_append_left front rest 0 k h) ∙ each k h)
    (λ h. ap (λ (i : ℕ). p (get_or (front ++ rest) i 0)) (at_end (length front)) ∙ ap p (get_or-append-add front rest 0 0) ∙ stop)

length-spaces : (n : ℕ) → length (spaces n) ≡ n
length-spaces n = length-replicate {A = ℕ} n 32

space_spaces : (n k : ℕ) → k < length (spaces n) → is_space (get_or (spaces n) k 0) ≡ true
space_spaces n k h = ap is_space (get_or-replicate n k 32 0 (omega (arith, length-spaces n)))

all_spaces : (n : ℕ) → list_all is_space (spaces n) ≡ true
all_spaces zero = refl
all_spaces (suc n) = all_spaces n

digit_not_space : (c : ℕ) → is_ascii_digit c ≡ true → is_space c ≡ false
digit_not_space c h = let r = digit_range c h in ne_eqb c 32 (λ e. absurd (omega (arith, r.0, e)))

digit_not_minus : (c : ℕ) → is_ascii_digit c ≡ true → eqb c 45 ≡ false
digit_not_minus c h = let r = digit_range c h in ne_eqb c 45 (λ e. absurd (omega (arith, r.0, e)))

-- after digits stand spaces or nothing, and so no digit
no_digit_behind : (n : ℕ) → is_ascii_digit (get_or (spaces n) 0 0) ≡ false
no_digit_behind zero = refl
no_digit_behind (suc n) = refl

unsigned_text : (digits : List ℕ) (after : ℕ) → 0 < length digits → ((k : ℕ) → k < length digits → is_ascii_digit (get_or digits k 0) ≡ true) → unsigned_in (digits ++ spaces after) ≡ Some (digits_number digits)
unsigned_text digits after some each =
    let text : List ℕ = digits ++ spaces after in
    let count : length digits ≡ prefix_len is_ascii_digit text = sym (prefix_front is_ascii_digit digits (spaces after) each (no_digit_behind after)) in
    let behind : spaces after ≡ drop (length digits) text = sym (drop_at digits (spaces after) (length digits) refl) in
    unsigned_whole text (spaces after) (length digits) count some behind (sym (prefix_all is_space (spaces after) (space_spaces after))) ∙ ap (λ (x : List ℕ). Some (digits_number x)) (take_at digits (spaces after) (length digits) refl)

signed_digits : (digits rest : List ℕ) → 0 < length digits → ((k : ℕ) → k < length digits → is_ascii_digit (get_or digits k 0) ≡ true) → signed_in (digits ++ rest) ≡ option_map pos (unsigned_in (digits ++ rest))
signed_digits [] rest some each = absurd (omega (arith, some))
signed_digits (c ∷ cs) rest some each =
    ap (λ (b : Bool). cond b (option_map (λ n. neg_ℤ (pos n)) (unsigned_in (cs ++ rest))) (option_map pos (unsigned_in (c ∷ (cs ++ rest))))) (digit_not_minus c (each 0 (omega arith)))

-- the first of digits
first_digit : (digits rest : List ℕ) → 0 < length digits → ((k : ℕ) → k < length digits → is_ascii_digit (get_or digits k 0) ≡ true) → is_space (get_or (digits ++ rest) 0 0) ≡ false
first_digit [] rest some each = absurd (omega (arith, some))
first_digit (c ∷ cs) rest some each = digit_not_space c (each 0 (omega arith))

signed_text : (minus : Bool) (digits : List ℕ) (after : ℕ) → 0 < length digits → ((k : ℕ) → k < length digits → is_ascii_digit (get_or digits k 0) ≡ true) → signed_in (cond minus (45 ∷ []) [] ++ (digits ++ spaces after)) ≡ Some (cond minus (neg_ℤ (pos (digits_number digits))) (pos (digits_number digits)))
signed_text true digits after some each = ap (λ (o : Option ℕ). option_map (λ n. neg_ℤ (pos n)) o) (unsigned_text digits after some each)
signed_text false digits after some each = signed_digits digits (spaces after) some each ∙ ap (λ (o : Option ℕ). option_map pos o) (unsigned_text digits after some each)

first_not_space : (minus : Bool) (digits rest : List ℕ) → 0 < length digits → ((k : ℕ) → k < length digits → is_ascii_digit (get_or digits k 0) ≡ true) → is_space (get_or (cond minus (45 ∷ []) [] ++ (digits ++ rest)) 0 0) ≡ false
first_not_space true digits rest some each = refl
first_not_space false digits rest some each = first_digit digits rest some each

-- a text that writes a number is read as that number
pub number_in-text : (text : List ℕ) (z : ℤ) → IsNumberText text z → number_in text ≡ Some z
number_in-text text z is =
    let rest : List ℕ = cond is.minus (45 ∷ []) [] ++ (is.digits ++ spaces is.after) in
    let gap : List ℕ = spaces is.before in
    let count : prefix_len is_space (gap ++ rest) ≡ is.before = prefix_front is_space gap rest (space_spaces is.before) (first_not_space is.minus is.digits (spaces is.after) is.some is.decimal) ∙ length-spaces is.before in
    let behind : drop (prefix_len is_space (gap ++ rest)) (gap ++ rest) ≡ rest = ap (λ (n : ℕ). drop n (gap ++ rest)) count ∙ drop_at gap rest is.before (length-spaces is.before) in
    ap number_in is.parts ∙ ap signed_in behind ∙ signed_text is.minus is.digits is.after is.some is.decimal ∙ ap (λ (n : ℤ). Some n) (sym is.value)

-- ---- the other way

abbrev none_of : (A : Type 0) → Option A
none_of A = None

one_more : (x : ℕ) (xs : List ℕ) (n : ℕ) → x ≡ 32 → take n xs ≡ spaces n → take (1 + n) (x ∷ xs) ≡ spaces (1 + n)
one_more x xs n e h = rw one-add (ap (λ (c : ℕ). c ∷ take n xs) e ∙ ap (λ (l : List ℕ). 32 ∷ l) h)

digit_from_range : (c : ℕ) → 48 ≤ c → c ≤ 57 → is_ascii_digit c ≡ true
digit_from_range c low high = grind (arith, nat_tests)

digit_not_zero : (c : ℕ) → is_ascii_digit c ≡ true → not (eqb c 0) ≡ true
digit_not_zero c h = let r = digit_range c h in ap not (ne_eqb c 0 (λ e. absurd (omega (arith, r.0, e))))

zero_first : (n : ℕ) → not (eqb (get_or (replicate n 0) 0 0) 0) ≡ false
zero_first zero = refl
zero_first (suc n) = refl

no_some : {A : Type 0} (a : A) → none_of A ≡ Some a → ⊥
no_some a h = cc

same_some : {A : Type 0} (a b : A) → Some a ≡ Some b → a ≡ b
same_some a b h = cc

space_is : (c : ℕ) → is_space c ≡ true → c ≡ 32
space_is c h = eqb-true c 32 h

spaces_from_all : (xs : List ℕ) → list_all is_space xs ≡ true → xs ≡ spaces (length xs)
spaces_from_all [] h = refl
spaces_from_all (x ∷ xs) h =
    let by_case : (b : Bool) → is_space x ≡ b → b && list_all is_space xs ≡ true → x ∷ xs ≡ spaces (suc (length xs)) = elim [ true ↦ λ e r. ap (λ (c : ℕ). c ∷ xs) (space_is x e) ∙ ap (λ (l : List ℕ). 32 ∷ l) (spaces_from_all xs r) | false ↦ λ e r. absurd (false≢true r) ] in
    by_case (is_space x) refl h

spaces_in_front : (xs : List ℕ) → take (prefix_len is_space xs) xs ≡ spaces (prefix_len is_space xs)
spaces_in_front [] = refl
spaces_in_front (x ∷ xs) =
    let by_case : (b : Bool) → is_space x ≡ b → take (cond b (1 + prefix_len is_space xs) 0) (x ∷ xs) ≡ spaces (cond b (1 + prefix_len is_space xs) 0) = elim [ true ↦ λ e. one_more x xs (prefix_len is_space xs) (space_is x e) (spaces_in_front xs) | false ↦ λ e. refl ] in
    by_case (is_space x) refl

tested : Bool → Bool → ℕ → Option ℕ
tested some rest n = cond (some && rest) (Some n) None

tested_parts : (some rest : Bool) (m n : ℕ) → tested some rest m ≡ Some n → (some ≡ true) × (rest ≡ true) × (m ≡ n)
unfolding tested
tested_parts true true m n h = (refl, refl, same_some m n h)
tested_parts true false m n h = absurd (no_some n h)
tested_parts false rest m n h = absurd (no_some n h)

record Parts (text : List ℕ) (n : ℕ) : Type 0 where
  digits : List ℕ
  after : ℕ
  parts : text ≡ digits ++ spaces after
  some : 0 < length digits
  each : (k : ℕ) → k < length digits → is_ascii_digit (get_or digits k 0) ≡ true
  value : n ≡ digits_number digits

unsigned_parts : (text : List ℕ) (n : ℕ) → unsigned_in text ≡ Some n → Parts text n
unfolding tested
unsigned_parts text n h =
    let count : ℕ = prefix_len is_ascii_digit text in
    let p = tested_parts (nat_lt 0 count) (list_all is_space (drop count text)) (digits_number (take count text)) n h in
    let within = prefix_len-le-length is_ascii_digit text in
    let size : length (take count text) ≡ count = length-take-le count text within in
    record {
      digits = take count text;
      after = length (drop count text);
      parts = sym (take-append-drop count text) ∙ ap (λ (x : List ℕ). take count text ++ x) (spaces_from_all (drop count text) p.1);
      some = omega (arith, size, ltb-true 0 count p.0);
      each = λ k lt. let small : k < count = omega (arith, size, lt) in ap is_ascii_digit (get_or-take count text k 0 small) ∙ prefix_len_passes is_ascii_digit text k 0 small;
      value = sym p.2;
    }

mapped_parts : (f : ℕ → ℤ) (o : Option ℕ) (z : ℤ) → option_map f o ≡ Some z → (n : ℕ) × (o ≡ Some n) × (f n ≡ z)
mapped_parts f None z h = absurd (no_some z h)
mapped_parts f (Some n) z h = (n, refl, same_some (f n) z h)

text_from : (before : ℕ) (minus : Bool) (text rest : List ℕ) (n : ℕ) (z : ℤ) → text ≡ spaces before ++ (cond minus (45 ∷ []) [] ++ rest) → z ≡ cond minus (neg_ℤ (pos n)) (pos n) → Parts rest n → IsNumberText text z
text_from before minus text rest n z is value p = record {
  before = before;
  minus = minus;
  digits = p.digits;
  after = p.after;
  parts = is ∙ ap (λ (x : List ℕ). spaces before ++ (cond minus (45 ∷ []) [] ++ x)) p.parts;
  some = p.some;
  decimal = p.each;
  value = value ∙ ap (λ (k : ℕ). cond minus (neg_ℤ (pos k)) (pos k)) p.value;
}

signed_from : (before : ℕ) (text rest : List ℕ) (z : ℤ) → text ≡ spaces before ++ rest → signed_in rest ≡ Some z → IsNumberText text z
signed_from before text [] z is h = absurd (no_some z h)
signed_from before text (c ∷ cs) z is h =
    let by_case : (b : Bool) → eqb c 45 ≡ b → cond b (option_map (λ n. neg_ℤ (pos n)) (unsigned_in cs)) (option_map pos (unsigned_in (c ∷ cs))) ≡ Some z → IsNumberText text z =
    elim [
      | true ↦ λ e g. (let p = mapped_parts (λ n. neg_ℤ (pos n)) (unsigned_in cs) z g in
          text_from before true text cs p.0 z (is ∙ ap (λ (k : ℕ). spaces before ++ (k ∷ cs)) (eqb-true c 45 e)) (sym p.2) (unsigned_parts cs p.0 p.1))
      | false ↦ λ e g. (let p = mapped_parts pos (unsigned_in (c ∷ cs)) z g in
          text_from before false text (c ∷ cs) p.0 z is (sym p.2) (unsigned_parts (c ∷ cs) p.0 p.1))
    ] in
    by_case (eqb c 45) refl h

-- nothing else is read
pub text-number_in : (text : List ℕ) (z : ℤ) → number_in text ≡ Some z → IsNumberText text z
text-number_in text z h =
    let count : ℕ = prefix_len is_space text in
    signed_from count text (drop count text) z (sym (take-append-drop count text) ∙ ap (λ (x : List ℕ). x ++ drop count text) (spaces_in_front text)) h

-- ---- a number's own text

text_before_zeros : (ds : List ℕ) (n : ℕ) → ((k : ℕ) → k < length ds → not (eqb (get_or ds k 0) 0) ≡ true) → text_of (ds ++ replicate n 0) ≡ ds
text_before_zeros ds n each =
    let p : ℕ → Bool = λ c. not (eqb c 0) in
    ap (λ (k : ℕ). take k (ds ++ replicate n 0)) (prefix_front p ds (replicate n 0) each (zero_first n)) ∙ take_at ds (replicate n 0) (length ds) refl

digits_each : (n : ℕ) → n < 2 ^ 64 → (k : ℕ) → k < length (decimal n) → is_ascii_digit (get_or (decimal n) k 0) ≡ true
digits_each n h k lt =
    let numeral = decimal_is_IsNumeral n h in
    let r = digit_at (decimal n) k numeral.0.1 lt in
    digit_from_range (get_or (decimal n) k 0) (omega arith) (omega arith)

unsigned_own : (n : ℕ) → n < 2 ^ 64 → Parts (decimal n) n
unsigned_own n h =
    let numeral = decimal_is_IsNumeral n h in
    record {
      digits = decimal n;
      after = 0;
      parts = sym (append-nil (decimal n));
      some = numeral.0.0;
      each = digits_each n h;
      value = sym (digits_number-value (decimal n) numeral.0.1 ∙ numeral.1);
    }

own_text : (z : ℤ) → mag z < 2 ^ 63 → IsNumberText (signed_decimal z) z
own_text (pos n) h = text_from 0 false (decimal n) (decimal n) n (pos n) refl refl (unsigned_own n (omega arith))
own_text (negsuc n) h = text_from 0 true (45 ∷ decimal (suc n)) (decimal (suc n)) (suc n) (negsuc n) refl refl (unsigned_own (suc n) (omega arith))

own_bytes : (z : ℤ) → mag z < 2 ^ 63 → (k : ℕ) → k < length (signed_decimal z) → not (eqb (get_or (signed_decimal z) k 0) 0) ≡ true
own_bytes (pos n) h k lt = digit_not_zero (get_or (decimal n) k 0) (digits_each n (omega arith) k lt)
own_bytes (negsuc n) h zero lt = refl
own_bytes (negsuc n) h (suc k) lt = digit_not_zero (get_or (decimal (suc n)) k 0) (digits_each (suc n) (omega arith) k (omega arith))

-- a number's text is read as that number
pub number_in-number_text : (z : ℤ) → mag z < 2 ^ 63 → number_in (text_of (number_text z)) ≡ Some z
number_in-number_text z h =
    ap number_in (text_before_zeros (signed_decimal z) (40 - length (signed_decimal z)) (own_bytes z h)) ∙ number_in-text (signed_decimal z) z (own_text z h)

-- a number's text fits
pub length-number_text : (z : ℤ) → mag z < 2 ^ 63 → length (number_text z) ≡ 40
length-number_text z h =
    let text : List ℕ = signed_decimal z in
    let short : length text ≤ 20 + 1 = length_signed_le 20 z (omega arith) h in
    omega (arith, length-append text (replicate (40 - length text) 0), length-replicate {A = ℕ} (40 - length text) 0)
