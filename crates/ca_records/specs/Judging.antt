-- Working: how the elements of a write are judged, in the order of their faults.
use Rattle.std.specs.Prelude.{ℕ, ◌≡◌, ◌≢◌, Bool, Option, Some, None, Ok, Err, Result}
use Rattle.std.specs.declared.alloc.AllocError.{AllocError}
use Rattle.ca_text.specs.declared.refusal.Refusal.{Refusal}
use Rattle.ca_dbr.specs.Elements.{Elements, base_of, elements}
use Rattle.ca_dbr.specs.Held.{Kind}
use Rattle.ca_display.specs.Conversion.{converted_by}
use Rattle.ca_records.specs.declared.judged.Judged.{Judged}
use Rattle.ca_records.specs.declared.judged.Judged.TheVariants.{Fits, NoMemory, Refused}
use Rattle.ca_records.specs.declared.puts.Begun.{Begun}
use Rattle.ca_records.specs.declared.puts.Begun.TheVariants.{Applied, Waiting}
use Rattle.ca_records.specs.declared.puts.Begun.TheVariants as begun
use Rattle.ca_records.specs.declared.puts.Put.{Put}
use Rattle.ca_records.specs.Faults.{put_fault}

-- these elements in this type
abbrev pub converted_as : Elements → Kind → Result Elements Refusal
converted_as e k = converted_by k.display e k.base

-- the answer that these elements are to have for this type
abbrev pub Judges : Elements → Kind → Bool → Judged → Type 0
Judges e k crowded (Fits v) =
    (converted_as e k ≡ Ok (elements v)) × (put_fault (converted_as e k) crowded ≡ None)
Judges e k crowded (Refused s) = put_fault (converted_as e k) crowded ≡ Some s.number
Judges e k crowded NoMemory =
    (put_fault (converted_as e k) crowded ≡ None) × (base_of e ≢ k.base)

-- how many more puts wait after a write
abbrev pub more_waiting : Result Begun AllocError → ℕ
more_waiting (Ok Waiting) = 1
more_waiting (Ok (Applied busies)) = 0
more_waiting (Ok (begun.Refused status)) = 0
more_waiting (Err lack) = 0

-- how many puts wait no longer, after this one was applied, or none
abbrev pub fewer_waiting : Option Put → ℕ
fewer_waiting None = 0
fewer_waiting (Some p) = 1
