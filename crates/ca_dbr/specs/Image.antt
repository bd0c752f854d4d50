-- Images: how a value and its metadata are in a payload (section "Payload Data Types").
use Rattle.std.specs.Prelude.{ℕ, ◌≡◌, ◌++◌, List, [], replicate, Result, Ok, Err}
use Rattle.ca_text.specs.declared.refusal.Refusal.{Refusal}
use Rattle.ca_text.specs.declared.refusal.Refusal.TheVariants as refusal
use Rattle.ca_dbr.specs.declared.data_type.Form.{Form}
use Rattle.ca_dbr.specs.declared.data_type.Form.TheVariants as form
use Rattle.ca_dbr.specs.declared.data_type.DataType.{DataType}
use Rattle.ca_dbr.specs.declared.value.Meta.{Meta}
use Rattle.ca_dbr.specs.Types.{type_number, padding_size}
use Rattle.ca_dbr.specs.Elements.{Elements, base_of, bytes_2, bytes_4, bytes_of}

-- the metadata that a form carries, as bytes
abbrev pub meta_bytes : Form → Meta → List ℕ
meta_bytes form.Plain m = []
meta_bytes form.Status m = bytes_2 m.status ++ bytes_2 m.severity
meta_bytes form.Time m =
    bytes_2 m.status ++ (bytes_2 m.severity ++ (bytes_4 m.seconds ++ bytes_4 m.nanos))

-- the metadata, zero bytes, and the elements
abbrev pub image : DataType → Elements → Meta → List ℕ
image t e m = meta_bytes t.form m ++ (replicate (padding_size t.form t.base) 0 ++ bytes_of e)

-- a type with this number, for elements of this base type
pub record Types (number : ℕ) (e : Elements) (t : DataType) : Type 0 where
  pub numbered : type_number t ≡ number
  pub based : t.base ≡ base_of e

-- The image of these elements and this metadata was to be written after the old bytes, with this
-- answer, and left new.
abbrev pub Writes : ℕ → Elements → Meta → List ℕ → Result (Unit {0}) Refusal → List ℕ → Type 0
Writes number e m old (Ok _) new = (t : DataType) × Types number e t × (new ≡ old ++ image t e m)
Writes number e m old (Err refusal.BadType) new =
    ((t : DataType) → Types number e t → ⊥) × (new ≡ old)
Writes number e m old (Err refusal.OutOfMemory) new =
    (t : DataType) × Types number e t × (new ≡ old)
Writes number e m old (Err _) new = ⊥
