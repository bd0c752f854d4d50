-- Vocabulary: what a record shows of its value in a type, and the image of that (section "Payload
-- Data Types"). A record without display data has the 21 types that show none, and one with
-- display data has all 35.
use Rattle.std.specs.Prelude.{ℕ, ◌==◌, Bool, true, false, List, [], ◌∷◌, ◌++◌, Option, Some, None}
use Rattle.std.specs.Prelude.{Result, Err, find, map}
use Rattle.std.specs.List.{flat_map}
use Rattle.ca_text.specs.declared.refusal.Refusal.{Refusal}
use Rattle.ca_text.specs.declared.refusal.Refusal.TheVariants as refusal
use Rattle.ca_dbr.specs.declared.data_type.BaseType.{BaseType}
use Rattle.ca_dbr.specs.declared.data_type.BaseType.TheVariants as base
use Rattle.ca_dbr.specs.declared.data_type.DataType.{DataType}
use Rattle.ca_dbr.specs.declared.data_type.Form.{Form}
use Rattle.ca_dbr.specs.declared.data_type.Form.TheVariants as form
use Rattle.ca_dbr.specs.declared.value.Meta.{Meta}
use Rattle.ca_dbr.specs.Conversion.{converted}
use Rattle.ca_dbr.specs.DisplayData.{DisplayData}
use Rattle.ca_dbr.specs.Elements.{Elements}
use Rattle.ca_dbr.specs.Held.{bare, display_of}
use Rattle.ca_dbr.specs.Image.{image}
use Rattle.ca_dbr.specs.Shown.{shown}
use Rattle.ca_dbr.specs.Types.{base_number, type_number}
use Rattle.ca_display.specs.declared.display_type.DisplayForm.{DisplayForm}
use Rattle.ca_display.specs.declared.display_type.DisplayForm.TheVariants as display_form
use Rattle.ca_display.specs.declared.display_type.DisplayType.{DisplayType}
use Rattle.ca_display.specs.declared.image_type.ImageType.{ImageType}
use Rattle.ca_display.specs.declared.image_type.ImageType.TheVariants as any
use Rattle.ca_display.specs.Conversion.{display_shown}
use Rattle.ca_display.specs.Image.{image_in}
use Rattle.ca_display.specs.Types.{base_in, image_number}
use Rattle.ca_records.specs.Faults.{lacks_conversion}

-- ---- types by their numbers

-- the types of elements
abbrev pub base_types : List BaseType
base_types =
    base.String ∷ base.Int ∷ base.Float ∷ base.Enum ∷ base.Char ∷ base.Long ∷ base.Double ∷ []

-- these types plain, with status, and with a time stamp
abbrev pub all_types : List DataType
all_types =
    flat_map (λ (f : Form). map (λ (b : BaseType). record { base = b; form = f }) base_types)
    (form.Plain ∷ form.Status ∷ form.Time ∷ [])

-- the graphic types, and the control types
abbrev pub display_types : List DisplayType
display_types =
    flat_map
    (λ (f : DisplayForm). map (λ (b : BaseType). record { base = b; form = f }) base_types)
    (display_form.Graphic ∷ display_form.Control ∷ [])

-- the types of all images
abbrev pub image_types : List ImageType
image_types =
    map (λ (t : DataType). any.Data t) all_types
    ++ map (λ (t : DisplayType). any.Display t) display_types

-- the plain type of this number
abbrev pub base_type_of : ℕ → Option BaseType
base_type_of n = find (λ (b : BaseType). base_number b == n) base_types

-- the type of this number that shows no display data
abbrev pub type_of : ℕ → Option DataType
type_of n = find (λ (t : DataType). type_number t == n) all_types

-- the type of this number
abbrev pub image_type_of : ℕ → Option ImageType
image_type_of n = find (λ (t : ImageType). image_number t == n) image_types

-- ---- by a record's display data, if it has some

-- whether it lacks the type
abbrev pub lacks_type : Option DisplayData → ImageType → Bool
lacks_type None (any.Display t) = true
lacks_type _ _ = false

-- whether its elements do not convert to a type: with display data each type does to each other
abbrev pub lacks_conversion_to : Option DisplayData → Elements → BaseType → Bool
lacks_conversion_to None e b = lacks_conversion (converted e b)
lacks_conversion_to (Some d) e b = false

-- what n of its elements are shown as, in a type that it has
abbrev pub shown_by : Option DisplayData → Elements → (count : ℕ) → ImageType
    → Result Elements Refusal
shown_by None e count (any.Data t) = shown e count t.base
shown_by None e count (any.Display t) = Err refusal.BadType
shown_by (Some d) e count t = display_shown d e count (base_in t)

-- the image of these elements, in a type that it has
abbrev pub image_by : Option DisplayData → ImageType → Elements → Meta → List ℕ
image_by None (any.Data t) e m = image t e m
image_by None (any.Display t) e m = []
image_by (Some d) t e m = image_in t e m d

-- ---- by what a record holds

abbrev pub shown_in : Elements → (count : ℕ) → ImageType → Result Elements Refusal
shown_in e count t = shown_by (display_of e) (bare e) count t

abbrev pub image_of : Elements → ImageType → Elements → Meta → List ℕ
image_of held t e m = image_by (display_of held) t e m
