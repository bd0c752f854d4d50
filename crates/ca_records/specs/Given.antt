-- Vocabulary: the elements of a write as a value of a record (section "CA_PROTO_WRITE").
use Rattle.std.specs.Prelude.{Option, Some, None, Result}
use Rattle.ca_text.specs.declared.refusal.Refusal.{Refusal}
use Rattle.ca_dbr.specs.DisplayData.{DisplayData}
use Rattle.ca_dbr.specs.Elements.{Elements}
use Rattle.ca_dbr.specs.Conversion.{with_data}
use Rattle.ca_dbr.specs.Held.{Kind, bare}
use Rattle.ca_display.specs.Conversion.{converted_by}

-- the result, with the display data of a record, if it has some
abbrev pub in_display : Option DisplayData → Result Elements Refusal → Result Elements Refusal
in_display None r = r
in_display (Some d) r = with_data d r

-- these elements as a value of a record of this type
abbrev pub given_as : Elements → Kind → Result Elements Refusal
given_as e k = in_display k.display (converted_by k.display (bare e) k.base)
