-- Numbers of texts.
use Rattle.std.proofs.Common.{◌≡◌, ℕ, suc, ◌+◌, ◌-◌, ◌*◌, ◌^◌, ◌<◌, ◌≤◌, min, Bool, true, false, not, ◌&&◌, Option, Some, None, ℤ, cond, eqb, nat_lt, List, [], ◌∷◌, ◌++◌, length, get_or, take, drop, replicate, refl, sym, ap, subst, ◌∙◌, arith}
use Rattle.std.specs.Fmt.{signed_decimal}
use Rattle.std.specs.Char.{is_ascii_digit, digit_value}
use Rattle.std.specs.List.{prefix_len, list_all}
use Rattle.std.specs.Str.Parse.{AllDigits, digits_value}
use Rattle.std.proofs.lemmas.Bool.Decides.{nat_tests}
use Rattle.std.proofs.lemmas.List.{take_all, drop-replicate, get_or-take, length-take-le}
use Rattle.std.proofs.lemmas.List.Sums.{prefix_len_is, prefix_len_passes, prefix_len-le-length}
use Rattle.std.proofs.lemmas.Str.Parse.{numerals_by_weight, tells_digits}
use Rattle.std.proofs.lemmas.Int.Digits.{digits_value_more, digits_more}
use Rattle.ca_dbr.specs.Number.{is_space, text_of, digits_number, unsigned_in, number_text}

-- the longest front that passes, by where it stops
pub prefix_at : (p : ℕ → Bool) (bytes : List ℕ) (i : ℕ) → i < length bytes → ((k : ℕ) → k < i → p (get_or bytes k 0) ≡ true) → p (get_or bytes i 0) ≡ false → i ≡ prefix_len p bytes
prefix_at p bytes i h each stop = sym (prefix_len_is p bytes i 0 (omega arith) each (λ _. stop))

pub prefix_all : (p : ℕ → Bool) (bytes : List ℕ) → ((k : ℕ) → k < length bytes → p (get_or bytes k 0) ≡ true) → length bytes ≡ prefix_len p bytes
prefix_all p bytes each = sym (prefix_len_is p bytes (length bytes) 0 (omega arith) each (λ h. absurd (omega arith)))

digit_low : (c : ℕ) → is_ascii_digit c ≡ true → 48 ≤ c
digit_low c h = grind (arith, nat_tests)

digit_high : (c : ℕ) → is_ascii_digit c ≡ true → c ≤ 57
digit_high c h = grind (arith, nat_tests)

pub digit_range : (c : ℕ) → is_ascii_digit c ≡ true → (48 ≤ c) × (c ≤ 57)
digit_range c h = (digit_low c h, digit_high c h)

pub digit_value_is : (c : ℕ) → 48 ≤ c → c ≤ 57 → digit_value c ≡ c - 48
digit_value_is c low high = grind (arith, nat_tests)

-- where all are digits, each is
pub digit_in : (ds : List ℕ) (i : ℕ) → prefix_len is_ascii_digit ds ≡ length ds → i < length ds → (48 ≤ get_or ds i 0) × (get_or ds i 0 ≤ 57)
digit_in ds i all h = digit_range (get_or ds i 0) (prefix_len_passes is_ascii_digit ds i 0 (omega arith))

-- the weights of the digits, and reading from the left, come to one number
pub digits_number-value : (ds : List ℕ) → AllDigits 10 ds → digits_number ds ≡ digits_value 10 ds
digits_number-value ds all = (numerals_by_weight (AllDigits 10) tells_digits digits_number (record { empty = refl; more = λ c cs r. refl })).same ds all

pub all_digits_more : (ds : List ℕ) (i : ℕ) → prefix_len is_ascii_digit ds ≡ length ds → i < length ds → AllDigits 10 (take i ds) → AllDigits 10 (take (i + 1) ds)
all_digits_more ds i all h before =
    let d = digit_in ds i all h in
    digits_more 10 ds i h before (omega (arith, d.0, d.1, digit_value_is (get_or ds i 0) d.0 d.1))

-- one digit more
pub clipped_more : (ds : List ℕ) (i n m : ℕ) → prefix_len is_ascii_digit ds ≡ length ds → i < length ds → n ≡ min (digits_value 10 (take i ds)) (2 ^ 32) → m ≡ min (n * 10 + (get_or ds i 0 - 48)) (2 ^ 32) → m ≡ min (digits_value 10 (take (i + 1) ds)) (2 ^ 32)
clipped_more ds i n m all h before after =
    let d = digit_in ds i all h in
    omega (arith, d.0, d.1, digit_value_is (get_or ds i 0) d.0 d.1, digits_value_more 10 ds i h)

pub clipped_all : (ds : List ℕ) (i n : ℕ) → length ds ≤ i → n ≡ min (digits_value 10 (take i ds)) (2 ^ 32) → AllDigits 10 (take i ds) → n ≡ min (digits_number ds) (2 ^ 32)
clipped_all ds i n h value all =
    let whole : take i ds ≡ ds = take_all i ds h in
    let P : List ℕ → Type 0 = λ x. AllDigits 10 x in
    omega (arith, ap (λ (x : List ℕ). digits_value 10 x) whole, digits_number-value ds (subst P whole all))

pub text_of-all : (bytes : List ℕ) → ((k : ℕ) → k < length bytes → not (eqb (get_or bytes k 0) 0) ≡ true) → text_of bytes ≡ bytes
text_of-all bytes all =
    take_all (prefix_len (λ c. not (eqb c 0)) bytes) bytes (omega (arith, prefix_len_is (λ c. not (eqb c 0)) bytes (length bytes) 0 (omega arith) all (λ h. absurd (omega arith))))

-- all pass where the longest front that passes is the whole
all_from_prefix : (p : ℕ → Bool) (xs : List ℕ) → prefix_len p xs ≡ length xs → list_all p xs ≡ true
all_from_prefix p [] h = refl
all_from_prefix p (x ∷ xs) h =
    let by_case : (b : Bool) → cond b (1 + prefix_len p xs) 0 ≡ suc (length xs) → b && list_all p xs ≡ true = elim [ true ↦ λ e. all_from_prefix p xs (omega (arith, e)) | false ↦ λ e. absurd (omega (arith, e)) ] in
    by_case (p x) h

not_all_from_prefix : (p : ℕ → Bool) (xs : List ℕ) → prefix_len p xs < length xs → list_all p xs ≡ false
not_all_from_prefix p [] h = absurd (omega (arith, h))
not_all_from_prefix p (x ∷ xs) h =
    let by_case : (b : Bool) → cond b (1 + prefix_len p xs) 0 < suc (length xs) → b && list_all p xs ≡ false = elim [ true ↦ λ e. not_all_from_prefix p xs (omega (arith, e)) | false ↦ λ e. refl ] in
    by_case (p x) h

pub digits_of_front : (p : ℕ → Bool) (text : List ℕ) (n : ℕ) → n ≡ prefix_len p text → prefix_len p (take n text) ≡ length (take n text)
digits_of_front p text n e =
    let within = prefix_len-le-length p text in
    let size : length (take n text) ≡ n = length-take-le n text (omega arith) in
    sym (prefix_all p (take n text) (λ k h. let lt : k < n = omega arith in ap p (get_or-take n text k 0 lt) ∙ prefix_len_passes p text k 0 (omega arith)))

tested : Bool → Bool → ℕ → Option ℕ
tested some rest n = cond (some && rest) (Some n) None

ltb_true : (m n : ℕ) → m < n → nat_lt m n ≡ true
ltb_true m n h = grind (arith, nat_tests)

pub unsigned_no_digit : (text : List ℕ) (n : ℕ) → n ≡ prefix_len is_ascii_digit text → n ≡ 0 → unsigned_in text ≡ None
unfolding tested
unsigned_no_digit text n e z =
    let count = prefix_len is_ascii_digit text in
    let none : nat_lt 0 count ≡ false = ap (λ (k : ℕ). nat_lt 0 k) (sym e ∙ z) in
    ap (λ (b : Bool). tested b (list_all is_space (drop count text)) (digits_number (take count text))) none

pub unsigned_more_behind : (text behind : List ℕ) (n : ℕ) → n ≡ prefix_len is_ascii_digit text → behind ≡ drop n text → prefix_len is_space behind < length behind → unsigned_in text ≡ None
unfolding tested
unsigned_more_behind text behind n e b h =
    let count = prefix_len is_ascii_digit text in
    let more : list_all is_space (drop count text) ≡ false = ap (λ (k : ℕ). list_all is_space (drop k text)) (sym e) ∙ ap (λ (x : List ℕ). list_all is_space x) (sym b) ∙ not_all_from_prefix is_space behind h in
    let by_case : (s : Bool) → tested s false (digits_number (take count text)) ≡ None = elim [ true ↦ refl | false ↦ refl ] in
    ap (λ (r : Bool). tested (nat_lt 0 count) r (digits_number (take count text))) more ∙ by_case (nat_lt 0 count)

pub unsigned_whole : (text behind : List ℕ) (n : ℕ) → n ≡ prefix_len is_ascii_digit text → 0 < n → behind ≡ drop n text → prefix_len is_space behind ≡ length behind → unsigned_in text ≡ Some (digits_number (take n text))
unfolding tested
unsigned_whole text behind n e some b h =
    let count = prefix_len is_ascii_digit text in
    let pos : nat_lt 0 count ≡ true = ltb_true 0 count (omega arith) in
    let rest : list_all is_space (drop count text) ≡ true = ap (λ (k : ℕ). list_all is_space (drop k text)) (sym e) ∙ ap (λ (x : List ℕ). list_all is_space x) (sym b) ∙ all_from_prefix is_space behind h in
    ap (λ (r : Bool). tested r (list_all is_space (drop count text)) (digits_number (take count text))) pos
    ∙ ap (λ (r : Bool). tested true r (digits_number (take count text))) rest
    ∙ ap (λ (k : ℕ). Some (digits_number (take k text))) (sym e)

-- a text that was copied onto zero bytes
pub text_over : (front text zeros : List ℕ) (z : ℤ) → front ≡ text → text ≡ signed_decimal z → zeros ≡ replicate 40 0 → front ++ drop (length text) zeros ≡ number_text z
text_over front text zeros z copied is is_zeros =
    let Q : List ℕ → List ℕ = λ x. x ++ replicate (40 - length x) 0 in
    ap (λ (x : List ℕ). x ++ drop (length text) zeros) copied ∙ ap (λ (x : List ℕ). text ++ drop (length text) x) is_zeros ∙ ap (λ (x : List ℕ). text ++ x) (drop-replicate (length text) 40 0) ∙ ap Q is
