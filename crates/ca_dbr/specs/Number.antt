-- Numbers as texts.
use Rattle.std.specs.Prelude.{ℕ, ◌+◌, ◌-◌, ◌*◌, ◌^◌, ℤ, pos, negsuc, neg_ℤ, min, Bool, ◌&&◌, ◌==◌}
use Rattle.std.specs.Prelude.{nat_lt, if◌then◌else◌, List, [], ◌∷◌, ◌++◌, length, take, drop}
use Rattle.std.specs.Prelude.{replicate, slice_index, Option, Some, None, option_map, ◌≡◌, ◌<◌}
use Rattle.std.specs.Prelude.{true}
use Rattle.std.specs.Char.{is_ascii_digit}
use Rattle.std.specs.List.{list_all, prefix_len, before_first}
use Rattle.std.specs.Fmt.{signed_decimal}

-- the text of a STRING: its bytes before the first zero
abbrev pub text_of : List ℕ → List ℕ
text_of bytes = before_first (λ c. c == 0) bytes

abbrev pub is_space : ℕ → Bool
is_space c = c == 32

-- the number of decimal digits: each digit's worth times ten to how many digits are after it
abbrev pub digits_number : List ℕ → ℕ
digits_number [] = 0
digits_number (c ∷ cs) = (c - 48) * 10 ^ length cs + digits_number cs

-- one digit or more, and then spaces alone
abbrev pub unsigned_in : List ℕ → Option ℕ
unsigned_in text =
    let count = prefix_len is_ascii_digit text in
    if nat_lt 0 count && list_all is_space (drop count text)
    then Some (digits_number (take count text)) else None

-- a minus may be before it
abbrev pub signed_in : List ℕ → Option ℤ
signed_in [] = None
signed_in (c ∷ cs) =
    if c == 45 then option_map (λ n. neg_ℤ (pos n)) (unsigned_in cs)
    else option_map pos (unsigned_in (c ∷ cs))

-- the number that a text is, if it is one: spaces may be before it and after it
abbrev pub number_in : List ℕ → Option ℤ
number_in text = signed_in (drop (prefix_len is_space text) text)

-- the decimal text of a number, with zero bytes after it
abbrev pub number_text : ℤ → List ℕ
number_text z = signed_decimal z ++ replicate (40 - length (signed_decimal z)) 0

-- the nearest number that is no further from zero than any number of a type
abbrev pub clipped : ℤ → ℤ
clipped (pos n) = pos (min n (2 ^ 32))
clipped (negsuc n) = negsuc (min n (2 ^ 32 - 1))

abbrev pub spaces : ℕ → List ℕ
spaces n = replicate n 32

-- a text that is a number: spaces, an optional minus, decimal digits, spaces, and the
-- number that they write
pub record IsNumberText (text : List ℕ) (z : ℤ) : Type 0 where
  pub before : ℕ
  pub minus : Bool
  pub digits : List ℕ
  pub after : ℕ
  pub parts : text ≡ spaces before ++ ((if minus then 45 ∷ [] else []) ++ (digits ++ spaces after))
  pub some : 0 < length digits
  pub decimal : (k : ℕ) → k < length digits → is_ascii_digit (slice_index digits k) ≡ true
  pub value : z ≡ (if minus then neg_ℤ (pos (digits_number digits)) else pos (digits_number digits))
