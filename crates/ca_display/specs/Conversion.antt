-- Conversions of values of records with display data: each type to each other, element by element.
use Rattle.std.specs.Prelude.{ℕ, ℤ, pos, ◌-◌, Bool, List, Option, Some, None, Result}
use Rattle.std.specs.Prelude.{Ok, Err, from_bits, unsigned_abs}
use Rattle.std.specs.Float.{binary32, binary64}
use Rattle.ca_text.specs.declared.refusal.Refusal.{Refusal}
use Rattle.ca_text.specs.declared.refusal.Refusal.TheVariants as refusal
use Rattle.ca_dbr.specs.declared.data_type.BaseType.{BaseType}
use Rattle.ca_dbr.specs.declared.data_type.BaseType.TheVariants as base
use Rattle.ca_dbr.specs.DisplayData.{DisplayData}
use Rattle.ca_dbr.specs.Elements.{Elements, strings, ints, floats, enums, chars, longs, doubles}
use Rattle.ca_dbr.specs.Elements.{displayed, count_of}
use Rattle.ca_dbr.specs.Number.{text_of}
use Rattle.ca_dbr.specs.Conversion.{in_signed, in_unsigned, gathered, then_elements, with_data}
use Rattle.ca_dbr.specs.Conversion.{converted}
use Rattle.ca_dbr.specs.Shown.{first_elements, zeros_behind}
use Rattle.ca_display.specs.declared.number.Number.{Number}
use Rattle.ca_display.specs.declared.number.Number.TheVariants as number
use Rattle.ca_display.specs.Number.{whole_of, in_type, as_float, as_double, float_text, text_number}
use Rattle.ca_display.specs.States.{state_text, state_number}
use Rattle.ca_display.specs.Real.{real_text}

-- what a number is made into, if there is one
abbrev pub and_number : {T : Type 0} → (Number → Result T Refusal) → Result Number Refusal
    → Result T Refusal
and_number made (Ok n) = made n
and_number made (Err e) = Err e

-- the element of a whole type that a number is towards zero
abbrev pub as_whole : {T : Type 0} → (ℤ → Bool) → (ℤ → T) → Number → Result T Refusal
as_whole within made n = in_type within made (whole_of n)

-- the numbers of elements
abbrev pub of_text : List ℕ → Result Number Refusal
of_text x = text_number (text_of x)

abbrev pub of_whole : ℤ → Result Number Refusal
of_whole z = Ok (number.Whole z)

abbrev pub of_natural : ℕ → Result Number Refusal
of_natural n = Ok (number.Whole (pos n))

abbrev pub of_float : ℕ → Result Number Refusal
of_float n = Ok (number.Real (from_bits binary32 n))

abbrev pub of_double : ℕ → Result Number Refusal
of_double n = Ok (number.Real (from_bits binary64 n))

-- elements with these numbers in another type; STRINGs are not made of numbers alone
abbrev pub in_numbers : {S : Type 0} → (S → Result Number Refusal) → List S → BaseType
    → Result Elements Refusal
in_numbers number xs base.String = Err refusal.NoConvert
in_numbers number xs base.Int =
    then_elements ints
    (gathered (λ x. and_number (as_whole (in_signed 15) (λ z. z)) (number x)) xs)
in_numbers number xs base.Float =
    then_elements floats (gathered (λ x. and_number (λ n. Ok (as_float n)) (number x)) xs)
in_numbers number xs base.Enum =
    then_elements enums
    (gathered (λ x. and_number (as_whole (in_unsigned 16) unsigned_abs) (number x)) xs)
in_numbers number xs base.Char =
    then_elements chars
    (gathered (λ x. and_number (as_whole (in_unsigned 8) unsigned_abs) (number x)) xs)
in_numbers number xs base.Long =
    then_elements longs
    (gathered (λ x. and_number (as_whole (in_signed 31) (λ z. z)) (number x)) xs)
in_numbers number xs base.Double =
    then_elements doubles (gathered (λ x. and_number (λ n. Ok (as_double n)) (number x)) xs)

-- the state that a text names, or has the number of, as an ENUM
abbrev pub state_of : DisplayData → List ℕ → Result ℕ Refusal
state_of d x =
    and_number (as_whole (in_unsigned 16) unsigned_abs) (state_number d.states (text_of x))

-- the text of an ENUM
abbrev pub enum_text : DisplayData → ℕ → Result (List ℕ) Refusal
enum_text d n = Ok (state_text d.states n)

-- the text of a FLOAT, and of a DOUBLE
abbrev pub float_shown : DisplayData → ℕ → Result (List ℕ) Refusal
float_shown d n = Ok (real_text binary32 d.precision n)

abbrev pub double_shown : DisplayData → ℕ → Result (List ℕ) Refusal
double_shown d n = Ok (real_text binary64 d.precision n)

-- Each type converts to itself, and a whole number to another and to its decimal text as for a
-- record without display data.
abbrev pub display_converted : DisplayData → Elements → BaseType → Result Elements Refusal
display_converted d (strings xs) base.String = converted (strings xs) base.String
display_converted d (strings xs) base.Enum = then_elements enums (gathered (state_of d) xs)
display_converted d (strings xs) base.Float =
    then_elements floats (gathered (λ x. float_text (text_of x)) xs)
display_converted d (strings xs) b = in_numbers of_text xs b
display_converted d (ints xs) base.Float = in_numbers of_whole xs base.Float
display_converted d (ints xs) base.Double = in_numbers of_whole xs base.Double
display_converted d (ints xs) b = converted (ints xs) b
display_converted d (enums xs) base.String = then_elements strings (gathered (enum_text d) xs)
display_converted d (enums xs) base.Float = in_numbers of_natural xs base.Float
display_converted d (enums xs) base.Double = in_numbers of_natural xs base.Double
display_converted d (enums xs) b = converted (enums xs) b
display_converted d (chars xs) base.Float = in_numbers of_natural xs base.Float
display_converted d (chars xs) base.Double = in_numbers of_natural xs base.Double
display_converted d (chars xs) b = converted (chars xs) b
display_converted d (longs xs) base.Float = in_numbers of_whole xs base.Float
display_converted d (longs xs) base.Double = in_numbers of_whole xs base.Double
display_converted d (longs xs) b = converted (longs xs) b
display_converted d (floats xs) base.Float = converted (floats xs) base.Float
display_converted d (floats xs) base.String =
    then_elements strings (gathered (float_shown d) xs)
display_converted d (floats xs) b = in_numbers of_float xs b
display_converted d (doubles xs) base.Double = converted (doubles xs) base.Double
display_converted d (doubles xs) base.String =
    then_elements strings (gathered (double_shown d) xs)
display_converted d (doubles xs) b = in_numbers of_double xs b
display_converted d (displayed c e) b = with_data c (display_converted d e b)

-- elements in a type, by display data if there are some
abbrev pub converted_by : Option DisplayData → Elements → BaseType → Result Elements Refusal
converted_by None e b = converted e b
converted_by (Some d) e b = display_converted d e b

-- What a read shows: n elements, in a type. A count below the present one takes the first elements,
-- before they are converted; after the present ones elements of zero bytes follow.
abbrev pub display_shown : DisplayData → Elements → ℕ → BaseType → Result Elements Refusal
display_shown d e count b =
    zeros_behind (count - count_of e) (display_converted d (first_elements count e) b)
