-- What a record is.
use Rattle.std.specs.Prelude.{ℕ, ◌<◌, ◌≤◌, Bool, List}
use Rattle.ca_text.specs.declared.refusal.Refusal.{Refusal}
use Rattle.ca_text.specs.declared.refusal.Refusal.TheVariants.{BadCount, NameLength}
use Rattle.ca_text.specs.Limits.{element_limit, record_name_limit}
use Rattle.ca_text.specs.Name.{IsName}
use Rattle.ca_dbr.specs.declared.value.Meta.{Meta}
use Rattle.ca_dbr.specs.Elements.{Elements, count_of}
use Rattle.ca_dbr.specs.Held.{IsHeldValue}
use Rattle.ca_dbr.specs.Reading.{IsMeta}

pub record RecordState : Type 0 where
  pub name : List ℕ
  -- the greatest element count
  pub count : ℕ
  -- a put with notification makes it busy
  pub slow : Bool
  -- the present value: elements of the record's type, as many as were written last, with its
  -- display data if it has some
  pub value : Elements
  -- its alarm and its stamp
  pub meta : Meta

-- what goes with a value that no put has set yet
abbrev pub unset : Meta
unset = record { status = 0; severity = 0; seconds = 0; nanos = 0 }

-- A count that a record may have, and a value that fits it: one element to n.
pub record HoldsValue (count : ℕ) (value : Elements) : Type 0 where
  pub one : 0 < count_of value
  pub within : count_of value ≤ count
  pub limit : count ≤ element_limit

pub record IsRecord (r : RecordState) : Type 0 where
  pub name : IsName record_name_limit r.name
  pub value : HoldsValue r.count r.value
  -- each element is one of the record's type, and each field of the metadata is in its range
  pub valued : IsHeldValue r.value
  pub meta : IsMeta r.meta

-- No record has this name, or none has this name and holds this value under this count, and
-- the refusal says which.
abbrev pub IsUnfit : List ℕ → ℕ → Elements → Refusal → Type 0
IsUnfit name count value NameLength = IsName record_name_limit name → ⊥
IsUnfit name count value BadCount = IsName record_name_limit name × (HoldsValue count value → ⊥)
IsUnfit name count value _ = ⊥
