-- Conversions between numbers for records with display data, element by element.
use Rattle.std.specs.Prelude.{ℕ, ℤ, Bool, if◌then◌else◌, List, drop, Option, Some, None, Result, Ok}
use Rattle.std.specs.Prelude.{◌&&◌, Err, is_nan, not, to_bits, option_and_then}
use Rattle.std.specs.Char.{is_ascii_digit}
use Rattle.std.specs.Int.{w64}
use Rattle.std.specs.Float.{Float, Format, binary32, binary64, float_is_infinite, float_to_signed}
use Rattle.std.specs.Float.{round_to_format}
use Rattle.std.specs.Float.Ieee.{of_int}
use Rattle.std.specs.Float.Parse.{read_float}
use Rattle.std.specs.List.{list_all, prefix_len}
use Rattle.ca_text.specs.declared.refusal.Refusal.{Refusal}
use Rattle.ca_text.specs.declared.refusal.Refusal.TheVariants as refusal
use Rattle.ca_dbr.specs.Number.{is_space}
use Rattle.ca_display.specs.declared.number.Number.{Number}
use Rattle.ca_display.specs.declared.number.Number.TheVariants as number

-- The whole number that a number is towards zero: none if it is not a number. One that is outside
-- 64 bits is the nearest number of those, which is outside each type too.
abbrev pub whole_of : Number → Option ℤ
whole_of (number.Whole z) = Some z
whole_of (number.Real x) = if is_nan x then None else Some (float_to_signed w64 x)

-- an element with this number, which may lie outside the type
abbrev pub in_type : {T : Type 0} → (ℤ → Bool) → (ℤ → T) → Option ℤ → Result T Refusal
in_type within made None = Err refusal.OutOfRange
in_type within made (Some z) = (if within z then Ok (made z) else Err refusal.OutOfRange)

-- the FLOAT and the DOUBLE nearest to a number; of two as near, the one whose last digit is even
abbrev pub as_float : Number → ℕ
as_float (number.Whole z) = to_bits binary32 (of_int binary32 z)
as_float (number.Real x) = to_bits binary32 (round_to_format binary32 x)

abbrev pub as_double : Number → ℕ
as_double (number.Whole z) = to_bits binary64 (of_int binary64 z)
as_double (number.Real x) = to_bits binary64 x

-- the number at the front of a text, if spaces alone are after it
abbrev pub front_float : Format → List ℕ → Option Float
front_float f text =
    option_and_then (λ r. if list_all is_space (drop r.1 text) then Some r.0 else None)
    (read_float f text)

-- the number of a format nearest to what a text writes, as a decimal number or with an exponent:
-- spaces may be before it and after it
abbrev pub float_in : Format → List ℕ → Option Float
float_in f text = front_float f (drop (prefix_len is_space text) text)

-- no digit is in it
abbrev pub is_word : List ℕ → Bool
is_word text = list_all (λ c. not (is_ascii_digit c)) text

-- A word may write an infinite number, but digits write none: it is too large for the format.
abbrev pub in_range : List ℕ → Option Float → Option Float
in_range text None = None
in_range text (Some x) = if float_is_infinite x && not (is_word text) then None else Some x

-- the bit pattern of the FLOAT that a text writes
abbrev pub float_bits : Option Float → Result ℕ Refusal
float_bits None = Err refusal.BadText
float_bits (Some x) = Ok (to_bits binary32 x)

abbrev pub float_text : List ℕ → Result ℕ Refusal
float_text text = float_bits (in_range text (float_in binary32 text))

-- the number that a text writes, which is a DOUBLE
abbrev pub double_number : Option Float → Result Number Refusal
double_number None = Err refusal.BadText
double_number (Some x) = Ok (number.Real x)

abbrev pub text_number : List ℕ → Result Number Refusal
text_number text = double_number (in_range text (float_in binary64 text))
