-- Limits in the type of an image.
use Rattle.std.specs.Prelude.{ℕ, ◌%◌, ◌^◌, ℤ, pos, List, [], map, from_bits, to_bits}
use Rattle.std.specs.Int.{w16, w32, cast_signed, cast_unsigned}
use Rattle.std.specs.Float.{binary32, binary64, float_to_signed, round_to_format}
use Rattle.std.specs.Float.Ieee.{of_int}
use Rattle.ca_dbr.specs.declared.data_type.BaseType.{BaseType}
use Rattle.ca_dbr.specs.declared.data_type.BaseType.TheVariants as base
use Rattle.ca_dbr.specs.Elements.{Elements, strings, ints, floats, enums, chars, longs, doubles}
use Rattle.ca_dbr.specs.Elements.{displayed}

-- A limit is the bit pattern of a DOUBLE. As a LONG it goes towards zero; outside the type it is
-- the nearest number of it, and no number is 0.
abbrev pub long_limit : ℕ → ℤ
long_limit n = float_to_signed w32 (from_bits binary64 n)

-- as an INT and as a CHAR it has the lowest bits of that LONG, as C makes one of the other
abbrev pub int_limit : ℕ → ℤ
int_limit n = cast_signed w16 (cast_unsigned w32 (long_limit n) % 2 ^ 16)

abbrev pub char_limit : ℕ → ℕ
char_limit n = cast_unsigned w32 (long_limit n) % 2 ^ 8

-- as a FLOAT it is the nearest one
abbrev pub float_limit : ℕ → ℕ
float_limit n = to_bits binary32 (round_to_format binary32 (from_bits binary64 n))

abbrev pub double_limit : ℕ → ℕ
double_limit n = n

-- these limits in a type; STRING and ENUM have none
abbrev pub limits_in : BaseType → List ℕ → Elements
limits_in base.String ns = strings []
limits_in base.Int ns = ints (map int_limit ns)
limits_in base.Float ns = floats (map float_limit ns)
limits_in base.Enum ns = enums []
limits_in base.Char ns = chars (map char_limit ns)
limits_in base.Long ns = longs (map long_limit ns)
limits_in base.Double ns = doubles (map double_limit ns)

-- the DOUBLE that is a whole number, and that is a FLOAT: each is one
abbrev pub whole_as_double : ℤ → ℕ
whole_as_double z = to_bits binary64 (of_int binary64 z)

abbrev pub natural_as_double : ℕ → ℕ
natural_as_double n = whole_as_double (pos n)

abbrev pub float_as_double : ℕ → ℕ
float_as_double n = to_bits binary64 (from_bits binary32 n)

-- limits that were shown in a type, as DOUBLEs again
abbrev pub as_doubles : Elements → List ℕ
as_doubles (strings xs) = []
as_doubles (ints xs) = map whole_as_double xs
as_doubles (floats xs) = map float_as_double xs
as_doubles (enums xs) = []
as_doubles (chars xs) = map natural_as_double xs
as_doubles (longs xs) = map whole_as_double xs
as_doubles (doubles xs) = map double_limit xs
as_doubles (displayed d e) = as_doubles e
