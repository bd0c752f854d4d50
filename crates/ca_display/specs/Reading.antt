-- Reading an image with display data: the lenient converse of writing one.
use Rattle.std.specs.Prelude.{ℕ, ◌≡◌, ◌≤◌, ◌<◌, ◌-◌, ◌*◌, ◌++◌, pos, List, [], length, take, drop}
use Rattle.std.specs.Prelude.{replicate, All, FitsSigned, ◌⊎◌}
use Rattle.std.specs.Int.{w16, from_be_bytes}
use Rattle.std.specs.List.{flat_map}
use Rattle.ca_text.specs.declared.refusal.Refusal.{Refusal}
use Rattle.ca_text.specs.declared.refusal.Refusal.TheVariants as refusal
use Rattle.ca_dbr.specs.declared.data_type.BaseType.{BaseType}
use Rattle.ca_dbr.specs.declared.data_type.BaseType.TheVariants as base
use Rattle.ca_dbr.specs.declared.data_type.Form.TheVariants as plain_form
use Rattle.ca_dbr.specs.declared.value.Meta.{Meta}
use Rattle.ca_dbr.specs.DisplayData.{DisplayData}
use Rattle.ca_dbr.specs.Elements.{Elements, base_of, count_of, bytes_2, bytes_of, IsValue}
use Rattle.ca_dbr.specs.Elements.{signed_bytes_2, string_bytes}
use Rattle.ca_dbr.specs.Image.{meta_bytes}
use Rattle.ca_dbr.specs.Reading.{carried, IsMeta, ReadsElements}
use Rattle.ca_display.specs.declared.display_type.DisplayForm.{DisplayForm}
use Rattle.ca_display.specs.declared.display_type.DisplayType.{DisplayType}
use Rattle.ca_display.specs.Types.{display_number, limit_count}
use Rattle.ca_display.specs.Limits.{limits_in, as_doubles}
use Rattle.ca_dbr.specs.Data.{in_field}

-- no display data: all is zero
abbrev pub no_data : DisplayData
no_data = record { units = replicate 8 0; precision = pos 0; limits = replicate 8 0; states = [] }

-- limits that an image shows, as DOUBLEs; those that it lacks are zero
abbrev pub limits_from : Elements → List ℕ
limits_from x = in_field 8 (as_doubles x)

-- The bytes are units and limits of this type, and nothing else.
pub record ReadsLimits (b : BaseType) (f : DisplayForm) (bytes units limits : List ℕ) : Type 0 where
  pub shown : Elements
  pub parts : bytes ≡ units ++ bytes_of shown
  pub sized : length units ≡ 8
  pub based : base_of shown ≡ b
  pub counted : count_of shown ≡ limit_count f
  pub valued : IsValue shown
  pub doubled : limits ≡ limits_from shown

-- The bytes are a precision, two bytes of padding, units and limits.
pub record ReadsReal (b : BaseType) (f : DisplayForm) (bytes : List ℕ)
    (d : DisplayData) : Type 0 where
  pub padding : List ℕ
  pub behind : List ℕ
  pub parts : bytes ≡ signed_bytes_2 d.precision ++ (padding ++ behind)
  pub padded : length padding ≡ 2
  pub fits : FitsSigned w16 d.precision
  pub limits : ReadsLimits b f behind d.units d.limits
  pub no_states : d.states ≡ []

-- The bytes are units and limits, and n bytes of padding.
pub record ReadsWhole (b : BaseType) (f : DisplayForm) (size : ℕ) (bytes : List ℕ)
    (d : DisplayData) : Type 0 where
  pub front : List ℕ
  pub padding : List ℕ
  pub parts : bytes ≡ front ++ padding
  pub padded : length padding ≡ size
  pub limits : ReadsLimits b f front d.units d.limits
  pub exact : d.precision ≡ pos 0
  pub no_states : d.states ≡ []

-- The bytes are a number of states, at most 16, as many names, and what fills the other names.
pub record ReadsStates (bytes : List ℕ) (d : DisplayData) : Type 0 where
  pub others : List ℕ
  pub parts : bytes ≡ bytes_2 (length d.states) ++ (flat_map string_bytes d.states ++ others)
  pub few : length d.states ≤ 16
  pub names : All (λ x. length x ≡ 26) d.states
  pub filled : length others ≡ (16 - length d.states) * 26
  pub only : d
      ≡ record {
        units = replicate 8 0;
        precision = pos 0;
        limits = replicate 8 0;
        states = d.states;
      }

-- the display data that these bytes of an image are
abbrev pub ReadsData : BaseType → DisplayForm → List ℕ → DisplayData → Type 0
ReadsData base.String f bytes d = (bytes ≡ []) × (d ≡ no_data)
ReadsData base.Int f bytes d = ReadsWhole base.Int f 0 bytes d
ReadsData base.Float f bytes d = ReadsReal base.Float f bytes d
ReadsData base.Enum f bytes d = ReadsStates bytes d
ReadsData base.Char f bytes d = ReadsWhole base.Char f 1 bytes d
ReadsData base.Long f bytes d = ReadsWhole base.Long f 0 bytes d
ReadsData base.Double f bytes d = ReadsReal base.Double f bytes d

-- These bytes are read as these elements, this status and severity, and this display data; anything
-- may be after the elements.
pub record ReadsDisplay (t : DisplayType) (count : ℕ) (bytes : List ℕ) (e : Elements) (m : Meta)
    (d : DisplayData) : Type 0 where
  pub middle : List ℕ
  pub body : List ℕ
  pub parts : bytes ≡ meta_bytes plain_form.Status m ++ (middle ++ body)
  pub read : ReadsData t.base t.form middle d
  pub elements : ReadsElements t.base count body e
  pub meta : IsMeta m
  pub only : carried plain_form.Status m ≡ m

-- the display data that an image of a type carries: limits as that type has them; the rest is zero
abbrev pub limits_carried : BaseType → DisplayForm → DisplayData → List ℕ
limits_carried b f d = limits_from (limits_in b (take (limit_count f) d.limits))

abbrev pub whole_carried : BaseType → DisplayForm → DisplayData → DisplayData
whole_carried b f d =
    record { units = d.units; precision = pos 0; limits = limits_carried b f d; states = [] }

abbrev pub real_carried : BaseType → DisplayForm → DisplayData → DisplayData
real_carried b f d =
    record { units = d.units; precision = d.precision; limits = limits_carried b f d; states = [] }

abbrev pub carried_data : BaseType → DisplayForm → DisplayData → DisplayData
carried_data base.String f d = no_data
carried_data base.Int f d = whole_carried base.Int f d
carried_data base.Float f d = real_carried base.Float f d
carried_data base.Enum f d =
    record { units = replicate 8 0; precision = pos 0; limits = replicate 8 0; states = d.states }
carried_data base.Char f d = whole_carried base.Char f d
carried_data base.Long f d = whole_carried base.Long f d
carried_data base.Double f d = real_carried base.Double f d

-- why these bytes are not read: no such type, too few bytes, more than 16 states, or no memory
abbrev pub DisplayRefused : ℕ → ℕ → List ℕ → Refusal → Type 0
DisplayRefused number count bytes refusal.BadType = (number < 21) ⊎ (34 < number)
DisplayRefused number count bytes refusal.Short =
    (t : DisplayType) × (display_number t ≡ number)
    × ((e : Elements) (m : Meta) (d : DisplayData) → ReadsDisplay t count bytes e m d → ⊥)
DisplayRefused number count bytes refusal.BadCount =
    (t : DisplayType) × (display_number t ≡ number) × (t.base ≡ base.Enum)
    × (16 < from_be_bytes w16 (take 2 (drop 4 bytes)))
DisplayRefused number count bytes refusal.OutOfMemory =
    (t : DisplayType) × (display_number t ≡ number)
DisplayRefused number count bytes _ = ⊥
