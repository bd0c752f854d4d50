-- Types of values (section "Payload Data Types"): a base type, plain or with metadata
-- before the elements.
use Rattle.std.specs.Prelude.{ℕ, ◌+◌, ◌*◌, ◌/◌, ◌%◌, ◌==◌, if◌then◌else◌}
use Rattle.ca_dbr.specs.declared.data_type.BaseType.{BaseType}
use Rattle.ca_dbr.specs.declared.data_type.BaseType.TheVariants as base
use Rattle.ca_dbr.specs.declared.data_type.Form.{Form}
use Rattle.ca_dbr.specs.declared.data_type.Form.TheVariants as form
use Rattle.ca_dbr.specs.declared.data_type.DataType.{DataType}

-- the number of a plain type
abbrev pub base_number : BaseType → ℕ
base_number base.String = 0
base_number base.Int = 1
base_number base.Float = 2
base_number base.Enum = 3
base_number base.Char = 4
base_number base.Long = 5
base_number base.Double = 6

-- what a form adds to it
abbrev pub form_number : Form → ℕ
form_number form.Plain = 0
form_number form.Status = 7
form_number form.Time = 14

abbrev pub type_number : DataType → ℕ
type_number t = base_number t.base + form_number t.form

-- the plain type of this number below 7
abbrev pub base_at : ℕ → BaseType
base_at n =
    if n == 0 then base.String else if n == 1 then base.Int else if n == 2 then base.Float
    else if n == 3 then base.Enum else if n == 4 then base.Char else if n == 5 then base.Long
    else base.Double

-- the form of this seven of numbers
abbrev pub form_at : ℕ → Form
form_at n = if n == 0 then form.Plain else if n == 1 then form.Status else form.Time

-- the type of this number below 21
abbrev pub type_at : ℕ → DataType
type_at n = record { base = base_at (n % 7); form = form_at (n / 7) }

-- how many bytes an element takes
abbrev pub element_size : BaseType → ℕ
element_size base.String = 40
element_size base.Int = 2
element_size base.Float = 4
element_size base.Enum = 2
element_size base.Char = 1
element_size base.Long = 4
element_size base.Double = 8

-- how many bytes the metadata takes: a status and a severity, and for Time seconds and nanoseconds
abbrev pub meta_size : Form → ℕ
meta_size form.Plain = 0
meta_size form.Status = 4
meta_size form.Time = 12

-- how many bytes are between the metadata and the elements, as C lays the structs out
abbrev pub padding_size : Form → BaseType → ℕ
padding_size form.Plain _ = 0
padding_size form.Status base.String = 0
padding_size form.Status base.Int = 0
padding_size form.Status base.Float = 0
padding_size form.Status base.Enum = 0
padding_size form.Status base.Char = 1
padding_size form.Status base.Long = 0
padding_size form.Status base.Double = 4
padding_size form.Time base.String = 0
padding_size form.Time base.Int = 2
padding_size form.Time base.Float = 0
padding_size form.Time base.Enum = 2
padding_size form.Time base.Char = 3
padding_size form.Time base.Long = 0
padding_size form.Time base.Double = 4

-- how many bytes an image of n elements takes
abbrev pub size_of_image : DataType → ℕ → ℕ
size_of_image t count = meta_size t.form + padding_size t.form t.base + count * element_size t.base
