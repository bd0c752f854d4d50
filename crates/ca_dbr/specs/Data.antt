-- The display data of the program, and how they are made.
use Rattle.std.specs.Prelude.{ℕ, ◌<◌, ◌≤◌, ◌-◌, List, [], ◌∷◌, ◌++◌, length, replicate}
use Rattle.std.specs.Prelude.{Contains}
use Rattle.ca_text.specs.declared.refusal.Refusal.{Refusal}
use Rattle.ca_text.specs.declared.refusal.Refusal.TheVariants as refusal
use Rattle.ca_dbr.specs.DisplayData.{DisplayData}
use Rattle.ca_dbr.specs.declared.display.Limits.{Limits}
use Rattle.ca_dbr.specs.declared.display.Display.{Display}

-- upper and lower limit of the display; of alarm, of warning, each upper one first; of control
abbrev pub limits_of : Limits → List ℕ
limits_of l =
    l.upper_display ∷ l.lower_display ∷ l.upper_alarm ∷ l.upper_warning ∷ l.lower_warning
    ∷ l.lower_alarm ∷ l.upper_control ∷ l.lower_control ∷ []

-- the display data of the program
abbrev pub data_of : Display → DisplayData
data_of d =
    record {
      units = d.units;
      precision = d.precision;
      limits = limits_of d.limits;
      states = d.states.items;
    }

-- a text fits a field of n bytes, and a zero byte is after it
pub record FitsField (size : ℕ) (text : List ℕ) : Type 0 where
  pub within : length text < size
  pub whole : Contains text 0 → ⊥

-- the text with zero bytes up to the size of the field
abbrev pub in_field : ℕ → List ℕ → List ℕ
in_field size text = text ++ replicate (size - length text) 0

-- why one more state is refused: there are 16, the name does not fit, or there is no memory
abbrev pub StateRefused : List (List ℕ) → List ℕ → Refusal → Type 0
StateRefused states name refusal.BadCount = 16 ≤ length states
StateRefused states name refusal.NameLength = (length states < 16) × (FitsField 26 name → ⊥)
StateRefused states name refusal.OutOfMemory = (length states < 16) × FitsField 26 name
StateRefused states name _ = ⊥
