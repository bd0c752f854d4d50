-- Vocabulary: what an update shows of a value (section "CA_PROTO_EVENT_ADD").
use Rattle.std.specs.Prelude.{ℕ, ◌≡◌, ◌==◌, Some, Ok, Err, Result, if◌then◌else◌, replicate}
use Rattle.ca_text.specs.declared.refusal.Refusal.{Refusal}
use Rattle.ca_text.specs.Status.{get_fail, normal}
use Rattle.ca_dbr.specs.Elements.{Elements, count_of}
use Rattle.ca_display.specs.declared.image_type.ImageType.{ImageType}
use Rattle.ca_display.specs.Image.{size_in}
use Rattle.ca_wire.specs.Fields.{Fields}
use Rattle.ca_wire.specs.declared.requests.Wanted.{Wanted}
use Rattle.ca_wire.specs.Messages.{update}
use Rattle.ca_model.specs.Images.{image_of, image_type_of, shown_in}
use Rattle.ca_model.specs.Speech.{Stored}

-- how many elements an update has: a count of 0 means the present count
abbrev pub update_count : Wanted → Stored → ℕ
update_count w v = if w.count == 0 then count_of v.value else w.count

-- the update with this image; or GETFAIL and as many zero bytes if the value has
-- none in the wanted type
abbrev pub update_in : Wanted → Stored → ImageType → Result Elements Refusal → Fields
update_in w v t (Ok e) =
    update w.data_type (update_count w v) normal w.id (image_of v.value t e v.meta)
update_in w v t (Err r) =
    update w.data_type (update_count w v) get_fail w.id
    (replicate (size_in t (update_count w v)) 0)

-- The message is the update that shows this value to a subscription that asked so.
abbrev pub ShowsTo : Wanted → Stored → Fields → Type 0
ShowsTo w v m =
    (t : ImageType) × (image_type_of w.data_type ≡ Some t)
    × (m ≡ update_in w v t (shown_in v.value (update_count w v) t))

-- The message is the update that shows this value to the subscription of this EVENT_ADD.
abbrev pub Shows : Fields → Stored → Fields → Type 0
Shows add v m =
    ShowsTo (record { sid = add.p1; id = add.p2; data_type = add.data_type; count = add.count }) v m
