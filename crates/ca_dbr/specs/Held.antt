-- What a record holds: elements, with display data if it has some.
use Rattle.std.specs.Prelude.{Option, Some, None}
use Rattle.ca_dbr.specs.declared.data_type.BaseType.{BaseType}
use Rattle.ca_dbr.specs.DisplayData.{DisplayData, IsData}
use Rattle.ca_dbr.specs.Elements.{Elements, strings, ints, floats, enums, chars, longs, doubles}
use Rattle.ca_dbr.specs.Elements.{displayed, base_of, IsValue}

-- the elements alone
abbrev pub bare : Elements → Elements
bare (strings xs) = strings xs
bare (ints xs) = ints xs
bare (floats xs) = floats xs
bare (enums xs) = enums xs
bare (chars xs) = chars xs
bare (longs xs) = longs xs
bare (doubles xs) = doubles xs
bare (displayed d e) = bare e

-- their display data, if they have some
abbrev pub display_of : Elements → Option DisplayData
display_of (strings xs) = None
display_of (ints xs) = None
display_of (floats xs) = None
display_of (enums xs) = None
display_of (chars xs) = None
display_of (longs xs) = None
display_of (doubles xs) = None
display_of (displayed d e) = Some d

-- elements with these display data, if there are some
abbrev pub displayed_by : Option DisplayData → Elements → Elements
displayed_by None e = e
displayed_by (Some d) e = displayed d e

-- A record may hold this: a value, or one with display data.
abbrev pub IsHeldValue : Elements → Type 0
IsHeldValue (strings xs) = IsValue (strings xs)
IsHeldValue (ints xs) = IsValue (ints xs)
IsHeldValue (floats xs) = IsValue (floats xs)
IsHeldValue (enums xs) = IsValue (enums xs)
IsHeldValue (chars xs) = IsValue (chars xs)
IsHeldValue (longs xs) = IsValue (longs xs)
IsHeldValue (doubles xs) = IsValue (doubles xs)
IsHeldValue (displayed d e) = IsData d × IsValue e

-- The type of a record: that of its elements, and the display data that they are shown by.
pub record Kind : Type 0 where
  pub base : BaseType
  pub display : Option DisplayData

abbrev pub kind_of : Elements → Kind
kind_of e = record { base = base_of e; display = display_of e }
