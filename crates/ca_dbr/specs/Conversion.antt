-- Conversions between types: through the whole number, element by element.
use Rattle.std.specs.Prelude.{◌≡◌, ◌⊎◌, IsOk, ℕ, ℤ, pos, negsuc, Bool, true, false, nat_lt, ◌<◌}
use Rattle.std.specs.Prelude.{◌^◌, if◌then◌else◌, List, [], ◌∷◌, Option, Some, None, Result, Ok}
use Rattle.std.specs.Prelude.{Err, unsigned_abs, IsTrue}
use Rattle.ca_text.specs.declared.refusal.Refusal.{Refusal}
use Rattle.ca_text.specs.declared.refusal.Refusal.TheVariants as refusal
use Rattle.ca_dbr.specs.declared.data_type.BaseType.{BaseType}
use Rattle.ca_dbr.specs.declared.data_type.BaseType.TheVariants as base
use Rattle.ca_dbr.specs.Types.{base_number}
use Rattle.ca_dbr.specs.DisplayData.{DisplayData}
use Rattle.ca_dbr.specs.Elements.{Elements, strings, ints, floats, enums, chars, longs, doubles}
use Rattle.ca_dbr.specs.Elements.{displayed}
use Rattle.ca_dbr.specs.Number.{text_of, number_in, number_text}

-- from -(2 ^ n) to 2 ^ n - 1
abbrev pub in_signed : ℕ → ℤ → Bool
in_signed n (pos k) = nat_lt k (2 ^ n)
in_signed n (negsuc k) = nat_lt k (2 ^ n)

-- from 0 to 2 ^ n - 1
abbrev pub in_unsigned : ℕ → ℤ → Bool
in_unsigned n (pos k) = nat_lt k (2 ^ n)
in_unsigned n (negsuc k) = false

-- an element with this number: none is a text that is no number, and a number may
-- lie outside the type
abbrev pub numbered : {T : Type 0} → (ℤ → Bool) → (ℤ → T) → Option ℤ → Result T Refusal
numbered within made None = Err refusal.BadText
numbered within made (Some z) = (if within z then Ok (made z) else Err refusal.OutOfRange)

-- the first result and the further ones, or the first refusal
abbrev pub first_and : {T : Type 0} → Result T Refusal → Result (List T) Refusal
    → Result (List T) Refusal
first_and (Ok y) (Ok ys) = Ok (y ∷ ys)
first_and (Ok y) (Err e) = Err e
first_and (Err e) _ = Err e

-- the results of all elements, or the first refusal
abbrev pub gathered : {S T : Type 0} → (S → Result T Refusal) → List S → Result (List T) Refusal
gathered f [] = Ok []
gathered f (x ∷ xs) = first_and (f x) (gathered f xs)

-- this refusal is the first one, or memory ran out if there is none
abbrev pub Fails : {A : Type 0} → Result A Refusal → Refusal → Type 0
Fails r e = (r ≡ Err e) ⊎ ((e ≡ refusal.OutOfMemory) × IsOk r)

-- the result made into elements
abbrev pub then_elements : {T : Type 0} → (List T → Elements) → Result (List T) Refusal
    → Result Elements Refusal
then_elements made (Ok xs) = Ok (made xs)
then_elements made (Err e) = Err e

-- elements with these numbers in another type
abbrev pub in_base : {S : Type 0} → (S → Option ℤ) → List S → BaseType → Result Elements Refusal
in_base number xs base.String =
    then_elements strings (gathered (λ x. numbered (λ _. true) number_text (number x)) xs)
in_base number xs base.Int =
    then_elements ints (gathered (λ x. numbered (in_signed 15) (λ z. z) (number x)) xs)
in_base number xs base.Enum =
    then_elements enums (gathered (λ x. numbered (in_unsigned 16) unsigned_abs (number x)) xs)
in_base number xs base.Char =
    then_elements chars (gathered (λ x. numbered (in_unsigned 8) unsigned_abs (number x)) xs)
in_base number xs base.Long =
    then_elements longs (gathered (λ x. numbered (in_signed 31) (λ z. z) (number x)) xs)
in_base number xs base.Float = Err refusal.NoConvert
in_base number xs base.Double = Err refusal.NoConvert

-- the result with these display data
abbrev pub with_data : DisplayData → Result Elements Refusal → Result Elements Refusal
with_data d (Ok e) = Ok (displayed d e)
with_data d (Err r) = Err r

-- Each type converts to itself. FLOAT and DOUBLE convert to nothing else, and nothing
-- else converts to them. Display data stay.
abbrev pub converted : Elements → BaseType → Result Elements Refusal
converted (strings xs) base.String = Ok (strings xs)
converted (strings xs) b = in_base (λ x. number_in (text_of x)) xs b
converted (ints xs) base.Int = Ok (ints xs)
converted (ints xs) b = in_base (λ z. Some z) xs b
converted (enums xs) base.Enum = Ok (enums xs)
converted (enums xs) b = in_base (λ n. Some (pos n)) xs b
converted (chars xs) base.Char = Ok (chars xs)
converted (chars xs) b = in_base (λ n. Some (pos n)) xs b
converted (longs xs) base.Long = Ok (longs xs)
converted (longs xs) b = in_base (λ z. Some z) xs b
converted (floats xs) base.Float = Ok (floats xs)
converted (floats xs) _ = Err refusal.NoConvert
converted (doubles xs) base.Double = Ok (doubles xs)
converted (doubles xs) _ = Err refusal.NoConvert
converted (displayed d e) b = with_data d (converted e b)

-- why elements are not converted to the plain type of this number
abbrev pub ConvertRefused : Elements → ℕ → Refusal → Type 0
ConvertRefused e number r =
    ((6 < number) × (r ≡ refusal.BadType))
    ⊎ ((b : BaseType) × (base_number b ≡ number) × Fails (converted e b) r)

-- a type whose elements are numbers, or texts of numbers
abbrev pub has_numbers : BaseType → Bool
has_numbers base.String = true
has_numbers base.Int = true
has_numbers base.Float = false
has_numbers base.Enum = true
has_numbers base.Char = true
has_numbers base.Long = true
has_numbers base.Double = false

-- there is a conversion: to itself, or between two types with numbers
abbrev pub HasConversion : BaseType → BaseType → Type 0
HasConversion a b = (a ≡ b) ⊎ (IsTrue (has_numbers a) × IsTrue (has_numbers b))

-- an element is at fault: a text that is no number, or a number outside the type
abbrev pub IsFault : Refusal → Type 0
IsFault r = (r ≡ refusal.BadText) ⊎ (r ≡ refusal.OutOfRange)
