-- What a value is: a list of elements of one type.
use Rattle.std.specs.Prelude.{ℕ, ◌≡◌, ◌<◌, ◌^◌, ℤ, List, [], ◌∷◌, length, All, FitsSigned}
use Rattle.std.specs.Int.{w16, w32, w64, to_be_bytes, cast_unsigned}
use Rattle.std.specs.List.{flat_map}
use Rattle.ca_dbr.specs.declared.data_type.BaseType.{BaseType}
use Rattle.ca_dbr.specs.declared.data_type.BaseType.TheVariants as base
use Rattle.ca_dbr.specs.DisplayData.{DisplayData}
use Rattle.ca_dbr.specs.declared.value.Value.{Value}
use Rattle.ca_dbr.specs.declared.value.Value.TheVariants as value

-- A STRING element is its 40 bytes, FLOAT and DOUBLE elements are bit patterns. The elements of a
-- record with display data have these with them.
pub data Elements : Type 0 where
  strings : List (List ℕ) → Elements
  ints : List ℤ → Elements
  floats : List ℕ → Elements
  enums : List ℕ → Elements
  chars : List ℕ → Elements
  longs : List ℤ → Elements
  doubles : List ℕ → Elements
  displayed : DisplayData → Elements → Elements

-- the elements of a value of the program
abbrev pub elements : Value → Elements
elements (value.Strings v) = strings v.items
elements (value.Ints v) = ints v.items
elements (value.Floats v) = floats v.items
elements (value.Enums v) = enums v.items
elements (value.Chars v) = chars v.items
elements (value.Longs v) = longs v.items
elements (value.Doubles v) = doubles v.items

abbrev pub base_of : Elements → BaseType
base_of (strings xs) = base.String
base_of (ints xs) = base.Int
base_of (floats xs) = base.Float
base_of (enums xs) = base.Enum
base_of (chars xs) = base.Char
base_of (longs xs) = base.Long
base_of (doubles xs) = base.Double
base_of (displayed d e) = base_of e

abbrev pub count_of : Elements → ℕ
count_of (strings xs) = length xs
count_of (ints xs) = length xs
count_of (floats xs) = length xs
count_of (enums xs) = length xs
count_of (chars xs) = length xs
count_of (longs xs) = length xs
count_of (doubles xs) = length xs
count_of (displayed d e) = count_of e

-- Each element is one of its type, and they are without display data, as in a message.
abbrev pub IsValue : Elements → Type 0
IsValue (strings xs) = All (λ x. length x ≡ 40) xs
IsValue (ints xs) = All (λ z. FitsSigned w16 z) xs
IsValue (floats xs) = All (λ n. n < 2 ^ 32) xs
IsValue (enums xs) = All (λ n. n < 2 ^ 16) xs
IsValue (chars xs) = All (λ n. n < 2 ^ 8) xs
IsValue (longs xs) = All (λ z. FitsSigned w32 z) xs
IsValue (doubles xs) = All (λ n. n < 2 ^ 64) xs
IsValue (displayed d e) = ⊥

-- the bytes of an element, the highest first
unfoldable pub string_bytes : List ℕ → List ℕ
string_bytes x = x

unfoldable pub byte_1 : ℕ → List ℕ
byte_1 n = n ∷ []

unfoldable pub bytes_2 : ℕ → List ℕ
bytes_2 n = to_be_bytes w16 n

unfoldable pub bytes_4 : ℕ → List ℕ
bytes_4 n = to_be_bytes w32 n

unfoldable pub bytes_8 : ℕ → List ℕ
bytes_8 n = to_be_bytes w64 n

-- a number below zero as two's complement
unfoldable pub signed_bytes_2 : ℤ → List ℕ
signed_bytes_2 z = to_be_bytes w16 (cast_unsigned w16 z)

unfoldable pub signed_bytes_4 : ℤ → List ℕ
signed_bytes_4 z = to_be_bytes w32 (cast_unsigned w32 z)

-- the bytes of the elements, one after another
abbrev pub bytes_of : Elements → List ℕ
bytes_of (strings xs) = flat_map string_bytes xs
bytes_of (ints xs) = flat_map signed_bytes_2 xs
bytes_of (floats xs) = flat_map bytes_4 xs
bytes_of (enums xs) = flat_map bytes_2 xs
bytes_of (chars xs) = flat_map byte_1 xs
bytes_of (longs xs) = flat_map signed_bytes_4 xs
bytes_of (doubles xs) = flat_map bytes_8 xs
bytes_of (displayed d e) = bytes_of e
