-- The alarm of a value by its limits (the fields HIHI, LOLO, HIGH and LOW of a record).
use Rattle.std.specs.Prelude.{ℕ, if◌then◌else◌, from_bits, get_or, List, [], ◌∷◌, Option}
use Rattle.std.specs.Prelude.{Some, None, Result, Ok, Err}
use Rattle.std.specs.Float.{Float, binary64}
use Rattle.std.specs.Float.Ieee.{le}
use Rattle.ca_text.specs.declared.refusal.Refusal.{Refusal}
use Rattle.ca_dbr.specs.Elements.{Elements, strings, ints, floats, enums, chars, longs, doubles}
use Rattle.ca_dbr.specs.Elements.{displayed}
use Rattle.ca_dbr.specs.DisplayData.{DisplayData}
use Rattle.ca_display.specs.declared.number.Number.{Number}
use Rattle.ca_display.specs.Number.{as_double}
use Rattle.ca_display.specs.Conversion.{of_whole, of_natural, of_float, of_double}

-- one of the limits, in the order that images have them
abbrev pub limit_at : List ℕ → ℕ → Float
limit_at limits place = from_bits binary64 (get_or limits place 0)

-- What a number is by a lower and an upper limit: at or above the upper one, at or below the lower
-- one, or neither. It is neither by limits with nothing between them, as the zeros that whole
-- numbers have in place of limits; and a limit that is no number is at no value.
abbrev pub limit_alarm : (low high : Float) → Float → (below above neither : ℕ × ℕ) → ℕ × ℕ
limit_alarm low high x below above neither =
    if le high low then neither
    else (if le high x then above else (if le x low then below else neither))

-- Status and severity: by the limits of alarm HIHI (3) or LOLO (5) and MAJOR (2); else by those of
-- warning HIGH (4) or LOW (6) and MINOR (1).
abbrev pub alarm_at : List ℕ → Float → ℕ × ℕ
alarm_at limits x =
    limit_alarm (limit_at limits 5) (limit_at limits 2) x (5, 2) (3, 2)
    (limit_alarm (limit_at limits 4) (limit_at limits 3) x (6, 1) (4, 1) (0, 0))

-- of an element that is a number, as the DOUBLE nearest to it
abbrev pub number_alarm : List ℕ → Result Number Refusal → ℕ × ℕ
number_alarm limits (Ok n) = alarm_at limits (from_bits binary64 (as_double n))
number_alarm limits (Err e) = (0, 0)

-- of one element alone
abbrev pub one_alarm : {S : Type 0} → List ℕ → (S → Result Number Refusal) → List S → ℕ × ℕ
one_alarm limits number [] = (0, 0)
one_alarm limits number (x ∷ []) = number_alarm limits (number x)
one_alarm limits number (x ∷ y ∷ ys) = (0, 0)

-- The alarm of a value: one number has one, a text, a state and several elements have none.
abbrev pub alarm_of : List ℕ → Elements → ℕ × ℕ
alarm_of limits (strings xs) = (0, 0)
alarm_of limits (ints xs) = one_alarm limits of_whole xs
alarm_of limits (floats xs) = one_alarm limits of_float xs
alarm_of limits (enums xs) = (0, 0)
alarm_of limits (chars xs) = one_alarm limits of_natural xs
alarm_of limits (longs xs) = one_alarm limits of_whole xs
alarm_of limits (doubles xs) = one_alarm limits of_double xs
alarm_of limits (displayed d e) = alarm_of limits e

-- what is held by its own limits: none without display data
abbrev pub alarm_by : Option DisplayData → Elements → ℕ × ℕ
alarm_by None e = (0, 0)
alarm_by (Some d) e = alarm_of d.limits e
