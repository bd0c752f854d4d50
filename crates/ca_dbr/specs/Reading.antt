-- Reading an image: the lenient converse of writing one.
use Rattle.std.specs.Prelude.{ℕ, ◌≡◌, ◌≢◌, ◌<◌, ◌≤◌, ◌+◌, ◌-◌, ◌*◌, ◌^◌, ◌++◌, Bool, true, false}
use Rattle.std.specs.Prelude.{List, length, replicate, ◌==◌, if◌then◌else◌}
use Rattle.ca_text.specs.declared.refusal.Refusal.{Refusal}
use Rattle.ca_text.specs.declared.refusal.Refusal.TheVariants as refusal
use Rattle.ca_dbr.specs.declared.data_type.BaseType.{BaseType}
use Rattle.ca_dbr.specs.declared.data_type.BaseType.TheVariants as base
use Rattle.ca_dbr.specs.declared.data_type.Form.{Form}
use Rattle.ca_dbr.specs.declared.data_type.Form.TheVariants as form
use Rattle.ca_dbr.specs.declared.data_type.DataType.{DataType}
use Rattle.ca_dbr.specs.declared.value.Meta.{Meta}
use Rattle.ca_dbr.specs.Types.{base_number, type_number, meta_size, padding_size}
use Rattle.ca_dbr.specs.Elements.{Elements, base_of, count_of, bytes_of, IsValue}
use Rattle.ca_dbr.specs.Image.{meta_bytes}

-- what a form carries of the metadata; the rest is zero
abbrev pub carried : Form → Meta → Meta
carried form.Plain m = record { status = 0; severity = 0; seconds = 0; nanos = 0 }
carried form.Status m = record { status = m.status; severity = m.severity; seconds = 0; nanos = 0 }
carried form.Time m = m

-- each field is in its range
pub record IsMeta (m : Meta) : Type 0 where
  pub status : m.status < 2 ^ 16
  pub severity : m.severity < 2 ^ 16
  pub seconds : m.seconds < 2 ^ 32
  pub nanos : m.nanos < 2 ^ 32

-- The bytes of n elements: one STRING may come in fewer than 40 bytes, even in none, and the
-- missing ones are zero.
abbrev pub filled : BaseType → ℕ → List ℕ → List ℕ
filled base.String count bytes =
    (if count == 1 then bytes ++ replicate (40 - length bytes) 0 else bytes)
filled base.Int count bytes = bytes
filled base.Float count bytes = bytes
filled base.Enum count bytes = bytes
filled base.Char count bytes = bytes
filled base.Long count bytes = bytes
filled base.Double count bytes = bytes

-- The front of these bytes is read as n elements of this base type.
pub record ReadsElements (b : BaseType) (count : ℕ) (bytes : List ℕ) (e : Elements) : Type 0 where
  pub behind : List ℕ
  pub spelled : filled b count bytes ≡ bytes_of e ++ behind
  pub based : base_of e ≡ b
  pub counted : count_of e ≡ count
  pub valued : IsValue e

-- These bytes are read as these elements and this metadata: metadata, any padding, the elements,
-- and anything after them.
pub record Reads (t : DataType) (count : ℕ) (bytes : List ℕ) (e : Elements)
    (m : Meta) : Type 0 where
  pub padding : List ℕ
  pub body : List ℕ
  pub parts : bytes ≡ meta_bytes t.form m ++ (padding ++ body)
  pub padded : length padding ≡ padding_size t.form t.base
  pub elements : ReadsElements t.base count body e
  pub meta : IsMeta m
  pub only : carried t.form m ≡ m

-- how many bytes n elements take at least
abbrev pub least_size : BaseType → ℕ → ℕ
least_size base.String count = (if count == 1 then 0 else count * 40)
least_size base.Int count = count * 2
least_size base.Float count = count * 4
least_size base.Enum count = count * 2
least_size base.Char count = count * 1
least_size base.Long count = count * 4
least_size base.Double count = count * 8

-- the bytes are long enough for metadata, padding and elements
abbrev pub IsLong : DataType → ℕ → List ℕ → Type 0
IsLong t count bytes =
    meta_size t.form + padding_size t.form t.base + least_size t.base count ≤ length bytes

-- why these bytes are not read: no such type, no reading, or no memory for one; no
-- elements need no memory
abbrev pub ReadRefused : ℕ → ℕ → List ℕ → Refusal → Type 0
ReadRefused number count bytes refusal.BadType = 20 < number
ReadRefused number count bytes refusal.Short =
    (t : DataType) × (type_number t ≡ number) × (IsLong t count bytes → ⊥)
    × ((e : Elements) (m : Meta) → Reads t count bytes e m → ⊥)
ReadRefused number count bytes refusal.OutOfMemory =
    (t : DataType) × (type_number t ≡ number) × IsLong t count bytes × (count ≢ 0)
ReadRefused number count bytes _ = ⊥

-- These elements are one, of the plain type of this number and no text, and the bytes
-- are enough for another.
pub record CanReadOver (number : ℕ) (bytes : List ℕ) (old : Elements) : Type 0 where
  pub typed : base_number (base_of old) ≡ number
  pub no_text : base_of old ≢ base.String
  pub one : count_of old ≡ 1
  pub long : least_size (base_of old) 1 ≤ length bytes

-- One element of the plain type of this number, at the front of these bytes, came in place of
-- another of that type; or that cannot be, and all stays.
abbrev pub ReadsOver : (number : ℕ) → List ℕ → (old : Elements) → Bool → (new : Elements) → Type 0
ReadsOver number bytes old true new =
    CanReadOver number bytes old × ReadsElements (base_of old) 1 bytes new
ReadsOver number bytes old false new = (CanReadOver number bytes old → ⊥) × (new ≡ old)
