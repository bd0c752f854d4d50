-- Working: the image of what a read or an update shows.
use Rattle.std.specs.Prelude.{ℕ, List, Option, Some, None, Ok, Err, Result}
use Rattle.ca_text.specs.declared.refusal.Refusal.{Refusal}
use Rattle.ca_text.specs.declared.refusal.Refusal.TheVariants as refusal
use Rattle.ca_dbr.specs.declared.value.Meta.{Meta}
use Rattle.ca_dbr.specs.DisplayData.{DisplayData}
use Rattle.ca_dbr.specs.Elements.{Elements}
use Rattle.ca_dbr.specs.Held.{bare, display_of}
use Rattle.ca_display.specs.declared.image_type.ImageType.{ImageType}
use Rattle.ca_model.specs.Images.{image_by, image_type_of, shown_by}

-- the image of these elements in a type, or why there are none
abbrev pub image_with : Option DisplayData → ImageType → Meta → Result Elements Refusal
    → Result (List ℕ) Refusal
image_with o t m (Ok e) = Ok (image_by o t e m)
image_with o t m (Err r) = Err r

-- the image of n elements of a value in this type, or why there is none
abbrev pub image_as : Option DisplayData → Elements → (count : ℕ) → Meta → Option ImageType
    → Result (List ℕ) Refusal
image_as o e count m None = Err refusal.BadType
image_as o e count m (Some t) = image_with o t m (shown_by o e count t)

-- that of what a record holds, in the type of this number
abbrev pub shown_image : (number count : ℕ) → Elements → Meta → Result (List ℕ) Refusal
shown_image number count held m =
    image_as (display_of held) (bare held) count m (image_type_of number)
