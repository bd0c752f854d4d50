-- Types of images with display data (section "Payload Data Types"): graphic ones, and control ones;
-- and of all images of a record that has display data.
use Rattle.std.specs.Prelude.{ℕ, ◌+◌, ◌*◌}
use Rattle.ca_dbr.specs.declared.data_type.BaseType.{BaseType}
use Rattle.ca_dbr.specs.declared.data_type.BaseType.TheVariants as base
use Rattle.ca_dbr.specs.Types.{base_number, type_number}
use Rattle.ca_display.specs.declared.display_type.DisplayForm.{DisplayForm}
use Rattle.ca_display.specs.declared.display_type.DisplayForm.TheVariants as form
use Rattle.ca_display.specs.declared.display_type.DisplayType.{DisplayType}
use Rattle.ca_display.specs.declared.image_type.ImageType.{ImageType}
use Rattle.ca_display.specs.declared.image_type.ImageType.TheVariants as any

-- what a form adds to the number of the plain type
abbrev pub form_number : DisplayForm → ℕ
form_number form.Graphic = 21
form_number form.Control = 28

abbrev pub display_number : DisplayType → ℕ
display_number t = base_number t.base + form_number t.form

-- how many limits are in an image: of the display 2, of the alarms 4, of control 2
abbrev pub limit_count : DisplayForm → ℕ
limit_count form.Graphic = 6
limit_count form.Control = 8

-- how many bytes are between status and severity and the elements, as C lays the structs out
abbrev pub data_size : BaseType → DisplayForm → ℕ
data_size base.String f = 0
data_size base.Int f = 8 + limit_count f * 2
data_size base.Float f = 12 + limit_count f * 4
data_size base.Enum f = 418
data_size base.Char f = 9 + limit_count f * 1
data_size base.Long f = 8 + limit_count f * 4
data_size base.Double f = 12 + limit_count f * 8

-- any type: its number, and the type of its elements
abbrev pub image_number : ImageType → ℕ
image_number (any.Data t) = type_number t
image_number (any.Display t) = display_number t

abbrev pub base_in : ImageType → BaseType
base_in (any.Data t) = t.base
base_in (any.Display t) = t.base
