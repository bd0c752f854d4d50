-- The names of an ENUM's states.
use Rattle.std.specs.Prelude.{ℕ, pos, Bool, ◌&&◌, nat_lt, if◌then◌else◌, List, [], ◌∷◌, length}
use Rattle.std.specs.Prelude.{slice_index_or, Result, Ok}
use Rattle.std.specs.Fmt.{decimal}
use Rattle.std.specs.List.{position_or_len}
use Rattle.std.specs.Str.{bytes_eq}
use Rattle.ca_text.specs.declared.refusal.Refusal.{Refusal}
use Rattle.ca_dbr.specs.Number.{text_of}
use Rattle.ca_display.specs.declared.number.Number.{Number}
use Rattle.ca_display.specs.declared.number.Number.TheVariants as number
use Rattle.ca_dbr.specs.Data.{in_field}
use Rattle.ca_display.specs.Number.{text_number}

-- a name, or another text if it is empty
abbrev pub name_or : List ℕ → List ℕ → List ℕ
name_or [] other = other
name_or (c ∷ cs) other = c ∷ cs

-- an ENUM as a text: the name of its state, if it has one, else its number
abbrev pub state_text : List (List ℕ) → ℕ → List ℕ
state_text states n = in_field 40 (name_or (text_of (slice_index_or states n [])) (decimal n))

-- a field has this name
abbrev pub is_named : List ℕ → List ℕ → Bool
is_named text field = bytes_eq (text_of field) text

-- the number of a state: of the first whose name the text is, which is not empty, else the number
-- that the text writes
abbrev pub state_number : List (List ℕ) → List ℕ → Result Number Refusal
state_number states text =
    let place = position_or_len (is_named text) states in
    if nat_lt 0 (length text) && nat_lt place (length states) then Ok (number.Whole (pos place))
    else text_number text
