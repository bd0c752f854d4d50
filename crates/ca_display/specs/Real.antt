-- A FLOAT or DOUBLE as a text, as EPICS Base 7.0.3.1 shows one (`cvtFloatToString` and
-- `cvtDoubleToString`): if it is at most 10 ^ 7 from zero and has at most 8 places, by products of
-- the format, else by `printf`.
use Rattle.std.specs.Prelude.{ℕ, ◌+◌, ◌*◌, ◌/◌, ◌^◌, min, ℤ, pos, Bool, false, ◌||◌, nat_lt, nat_le}
use Rattle.std.specs.Prelude.{if◌then◌else◌, List, [], ◌∷◌, ◌++◌, take, Option, Some, None}
use Rattle.std.specs.Prelude.{from_bits}
use Rattle.std.specs.Int.{w16, w64, cast_unsigned}
use Rattle.std.specs.Float.{Float, Format, binary32, binary64, float_to_unsigned, float_with_sign}
use Rattle.std.specs.Float.Ieee.{le, lt, sub, mul, of_int, top}
use Rattle.ca_dbr.specs.Data.{in_field}
use Rattle.ca_display.specs.Decimal.{point_text, fixed_text, scientific_text, size_text, in_width}

-- a text in the 40 bytes of a STRING, which cut it
abbrev pub in_string : List ℕ → List ℕ
in_string text = in_field 40 (take 40 text)

-- the precision as C takes it, of 16 bits without a sign: one below zero is over 8
abbrev pub places_of : ℤ → ℕ
places_of p = cast_unsigned w16 p

-- a whole number in a format
abbrev pub whole_in : Format → ℕ → Float
whole_in f n = of_int f (pos n)

-- A number from 0 on in units, of which `power` are 1: its whole part, and of what comes after
-- the point one digit more than is shown, towards zero, by two products of the format; the last
-- digit is then rounded, a half up.
abbrev pub units_of : Format → ℕ → Float → ℕ
units_of f power x =
    let whole = float_to_unsigned w64 x in
    let rest = sub f x (whole_in f whole) in
    let tenths = mul f (mul f rest (whole_in f power)) (whole_in f 10) in
    whole * power + (float_to_unsigned w64 tenths + 5) / 10

-- whether it is below zero, and the units, if it is at most 10 ^ 7 from zero
abbrev pub signed_units : Format → ℕ → Float → Option (Bool × ℕ)
signed_units f power x =
    if le (float_with_sign false x) (whole_in f 10000000)
    then Some (lt x (whole_in f 0), units_of f power (float_with_sign false x)) else None

abbrev pub minus_text : Bool → List ℕ
minus_text below = if below then 45 ∷ [] else []

-- what is more than this from zero has an exponent: a DOUBLE above 10 ^ 16, and a FLOAT from
-- 10 ^ 8 on, where they are 8 apart
abbrev pub fixed_limit : Format → ℕ
fixed_limit binary32 = 99999999
fixed_limit binary64 = 10000000000000000

-- the most places with an exponent, and how many bytes more the text has at least
abbrev pub most_places : Format → ℕ
most_places binary32 = 12
most_places binary64 = 17

abbrev pub more_bytes : Format → ℕ
more_bytes binary32 = 6
more_bytes binary64 = 7

-- by `%*.*e`, or with at most 3 places by `%.*f`; here -0 and a NaN have a sign, too
abbrev pub printed_text : Format → ℕ → List ℕ → Float → List ℕ
printed_text f p sign x =
    let most = min p (most_places f) in
    if nat_lt 8 p || lt (whole_in binary64 (fixed_limit f)) (float_with_sign false x)
    then in_width (most + more_bytes f) (sign ++ size_text (scientific_text most) x)
    else sign ++ size_text (fixed_text (min p 3)) x

abbrev pub units_text : Format → ℕ → ℕ → Option (Bool × ℕ) → List ℕ
units_text f p bits (Some r) = minus_text r.0 ++ point_text p r.1
units_text f p bits None =
    printed_text f p (minus_text (nat_le (top f) bits)) (from_bits f bits)

abbrev pub real_text : Format → ℤ → ℕ → List ℕ
real_text f precision bits =
    let p = places_of precision in
    in_string
    (units_text f p bits
    (if nat_lt 8 p then None else signed_units f (10 ^ p) (from_bits f bits)))
