-- Vocabulary: which fault of a write is answered by which status, once its elements were read
-- (section "Status Codes"). The first that is there decides.
use Rattle.std.specs.Prelude.{ℕ, Bool, true, false, not, List, [], ◌∷◌, Option, Result, Ok, Err}
use Rattle.std.specs.Prelude.{find, if◌then◌else◌, nat_lt, option_map}
use Rattle.ca_text.specs.declared.refusal.Refusal.{Refusal}
use Rattle.ca_text.specs.declared.refusal.Refusal.TheVariants as refusal
use Rattle.ca_text.specs.Limits.{waiting_puts}
use Rattle.ca_text.specs.Status.{no_convert, put_fail}
use Rattle.ca_dbr.specs.Elements.{Elements}
use Rattle.ca_dbr.specs.Held.{kind_of}
use Rattle.ca_records.specs.Given.{given_as}
use Rattle.ca_records.specs.Record.{RecordState}

-- the status of the first fault that is there
abbrev pub first_fault : List (Bool × ℕ) → Option ℕ
first_fault faults = option_map (λ (f : Bool × ℕ). f.1) (find (λ (f : Bool × ℕ). f.0) faults)

-- there is no conversion between the types
abbrev pub lacks_conversion : Result Elements Refusal → Bool
lacks_conversion (Err refusal.NoConvert) = true
lacks_conversion (Err _) = false
lacks_conversion (Ok e) = false

-- a text is no number, or a number lies outside the type
abbrev pub has_misfit : Result Elements Refusal → Bool
has_misfit (Err refusal.NoConvert) = false
has_misfit (Err _) = true
has_misfit (Ok e) = false

-- The first fault by what the conversion answers: none possible NOCONVERT; a text or a range
-- PUTFAIL; and no place to wait PUTFAIL.
abbrev pub put_fault : Result Elements Refusal → (crowded : Bool) → Option ℕ
put_fault c crowded =
    first_fault
    ((lacks_conversion c, no_convert) ∷ (has_misfit c, put_fail) ∷ (crowded, put_fail) ∷ [])

-- the same for a record: a WRITE_NOTIFY that would wait finds no place while 16 wait already
abbrev pub late_put_fault : RecordState → (must_wait : Bool) → (others : ℕ) → Elements → Option ℕ
late_put_fault r must_wait others e =
    put_fault (given_as e (kind_of r.value))
    (if must_wait then not (nat_lt others waiting_puts) else false)
