-- Images with display data: the structs dbr_gr_short to dbr_ctrl_double of the protocol
-- specification.
use Rattle.std.specs.Prelude.{ℕ, ◌≡◌, ◌++◌, ◌-◌, ◌*◌, ◌+◌, ◌<◌, ◌⊎◌, List, [], length, take}
use Rattle.std.specs.Prelude.{replicate, Result, Ok, Err}
use Rattle.std.specs.List.{flat_map}
use Rattle.ca_text.specs.declared.refusal.Refusal.{Refusal}
use Rattle.ca_text.specs.declared.refusal.Refusal.TheVariants as refusal
use Rattle.ca_dbr.specs.declared.data_type.BaseType.{BaseType}
use Rattle.ca_dbr.specs.declared.data_type.BaseType.TheVariants as base
use Rattle.ca_dbr.specs.declared.data_type.Form.TheVariants as plain_form
use Rattle.ca_dbr.specs.declared.value.Meta.{Meta}
use Rattle.ca_dbr.specs.Types.{element_size, size_of_image}
use Rattle.ca_dbr.specs.DisplayData.{DisplayData}
use Rattle.ca_dbr.specs.Elements.{Elements, bytes_2, bytes_of, signed_bytes_2}
use Rattle.ca_dbr.specs.Elements.{string_bytes}
use Rattle.ca_dbr.specs.Image.{image, meta_bytes}
use Rattle.ca_dbr.specs.Shown.{shown}
use Rattle.ca_display.specs.declared.display_type.DisplayForm.{DisplayForm}
use Rattle.ca_display.specs.declared.display_type.DisplayType.{DisplayType}
use Rattle.ca_display.specs.declared.image_type.ImageType.{ImageType}
use Rattle.ca_display.specs.declared.image_type.ImageType.TheVariants as any
use Rattle.ca_display.specs.Types.{image_number, base_in, limit_count, data_size}
use Rattle.ca_display.specs.Conversion.{display_shown}
use Rattle.ca_display.specs.Limits.{limits_in}

-- units, and the limits in the type of the image
abbrev pub limit_bytes : BaseType → DisplayForm → DisplayData → List ℕ
limit_bytes b f d = d.units ++ bytes_of (limits_in b (take (limit_count f) d.limits))

-- precision, two zero bytes, units and limits
abbrev pub real_bytes : BaseType → DisplayForm → DisplayData → List ℕ
real_bytes b f d = signed_bytes_2 d.precision ++ (replicate 2 0 ++ limit_bytes b f d)

-- how many states there are, and 16 names, of which the missing ones are zero bytes
abbrev pub state_bytes : DisplayData → List ℕ
state_bytes d =
    bytes_2 (length d.states)
    ++ (flat_map string_bytes d.states ++ replicate ((16 - length d.states) * 26) 0)

-- the display data that is in an image of a type
abbrev pub data_bytes : BaseType → DisplayForm → DisplayData → List ℕ
data_bytes base.String f d = []
data_bytes base.Int f d = limit_bytes base.Int f d
data_bytes base.Float f d = real_bytes base.Float f d
data_bytes base.Enum f d = state_bytes d
data_bytes base.Char f d = limit_bytes base.Char f d ++ replicate 1 0
data_bytes base.Long f d = limit_bytes base.Long f d
data_bytes base.Double f d = real_bytes base.Double f d

-- status and severity, the display data, and the elements
abbrev pub display_image : DisplayType → Elements → Meta → DisplayData → List ℕ
display_image t e m d = meta_bytes plain_form.Status m ++ (data_bytes t.base t.form d ++ bytes_of e)

-- how many bytes an image of n elements takes
abbrev pub size_of_display : DisplayType → ℕ → ℕ
size_of_display t count = 4 + data_size t.base t.form + count * element_size t.base

-- the image in any type of a record with display data, and how many bytes that of n elements takes
abbrev pub image_in : ImageType → Elements → Meta → DisplayData → List ℕ
image_in (any.Data t) e m d = image t e m
image_in (any.Display t) e m d = display_image t e m d

abbrev pub size_in : ImageType → ℕ → ℕ
size_in (any.Data t) count = size_of_image t count
size_in (any.Display t) count = size_of_display t count

-- Why n elements of these are not shown in a type: an element does not convert, or there is no
-- memory.
abbrev pub IsUnshown : DisplayData → Elements → ℕ → BaseType → Refusal → Type 0
IsUnshown d e count b r = (display_shown d e count b ≡ Err r) ⊎ (r ≡ refusal.OutOfMemory)

-- The image of what a read shows of these in a type was to be written after the old bytes, with
-- this answer, and left new.
abbrev pub WritesIn : ImageType → ℕ → Elements → Meta → DisplayData → List ℕ
    → Result (Unit {0}) Refusal → List ℕ → Type 0
WritesIn t count e m d old (Ok _) new =
    (f : Elements) × (display_shown d e count (base_in t) ≡ Ok f) × (new ≡ old ++ image_in t f m d)
WritesIn t count e m d old (Err r) new = (new ≡ old) × IsUnshown d e count (base_in t) r

-- the same in the type of this number, if there is one
abbrev pub WritesDisplay : ℕ → ℕ → Elements → Meta → DisplayData → List ℕ
    → Result (Unit {0}) Refusal → List ℕ → Type 0
WritesDisplay number count e m d old r new =
    ((34 < number) × (r ≡ Err refusal.BadType) × (new ≡ old))
    ⊎ ((t : ImageType) × (image_number t ≡ number) × WritesIn t count e m d old r new)

-- The image of n elements of these in a type of their own base was put after the old bytes, and
-- left new.
abbrev pub PutsOwn : ImageType → ℕ → Elements → Meta → DisplayData → List ℕ → List ℕ → Type 0
PutsOwn t count e m d old new =
    (f : Elements) × (shown e count (base_in t) ≡ Ok f) × (new ≡ old ++ image_in t f m d)
