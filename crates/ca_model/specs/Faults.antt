-- Vocabulary: which fault of a request is answered by which status (section "Status Codes"). The
-- first that is there decides.
use Rattle.std.specs.Prelude.{ℕ, ◌==◌, ◌%◌, ◌*◌, ◌||◌, Bool, not, [], ◌∷◌, Option, Some, None}
use Rattle.std.specs.Prelude.{Result, if◌then◌else◌, length, nat_lt}
use Rattle.ca_text.specs.declared.refusal.Refusal.{Refusal}
use Rattle.ca_text.specs.Limits.{circuit_queues, payload_limit, queue_subscriptions}
use Rattle.ca_text.specs.Status.{add_fail, bad_count, bad_type, get_fail, no_convert}
use Rattle.ca_text.specs.Status.{no_read_access, no_write_access}
use Rattle.ca_dbr.specs.declared.data_type.BaseType.{BaseType}
use Rattle.ca_dbr.specs.Elements.{Elements, count_of}
use Rattle.ca_dbr.specs.Held.{display_of}
use Rattle.ca_dbr.specs.Reading.{least_size}
use Rattle.ca_display.specs.declared.image_type.ImageType.{ImageType}
use Rattle.ca_display.specs.Image.{size_in}
use Rattle.ca_display.specs.Types.{base_in}
use Rattle.ca_records.specs.Faults.{first_fault, has_misfit, lacks_conversion}
use Rattle.ca_records.specs.Record.{RecordState}
use Rattle.ca_records.specs.Rules.{may_read, may_write}
use Rattle.ca_wire.specs.Fields.{Fields}
use Rattle.ca_wire.specs.Messages.{mask_in}
use Rattle.ca_model.specs.Images.{lacks_conversion_to, lacks_type, shown_in}

-- ---- single faults

-- n elements are over the greatest count, or their image is over the payload limit
abbrev pub too_many : RecordState → ImageType → ℕ → Bool
too_many r t n = nat_lt r.count n || nat_lt payload_limit (size_in t n)

-- ---- requests, in order of their faults

-- how many elements a read asks for: a count of 0 means the present count ("CA_PROTO_READ_NOTIFY")
abbrev pub read_count : RecordState → Fields → ℕ
read_count r m = if m.count == 0 then count_of r.value else m.count

-- what a READ_NOTIFY of this type is shown ("CA_PROTO_READ_NOTIFY")
abbrev pub read_shown : RecordState → Fields → ImageType → Result Elements Refusal
read_shown r m t = shown_in r.value (read_count r m) t

-- READ_NOTIFY: a type that the record has not BADTYPE; no right to read NORDACCESS; a count over
-- the greatest or an image over the payload limit BADCOUNT; no conversion NOCONVERT; a text or a
-- range GETFAIL.
abbrev pub read_fault : RecordState → (rights : ℕ) → Fields → Option ImageType → Option ℕ
read_fault r rights m None = Some bad_type
read_fault r rights m (Some t) =
    first_fault (
    (lacks_type (display_of r.value) t, bad_type)
    ∷ (not (may_read rights), no_read_access)
    ∷ (too_many r t (read_count r m), bad_count)
    ∷ (lacks_conversion (read_shown r m t), no_convert)
    ∷ (has_misfit (read_shown r m t), get_fail)
    ∷ []
    )

-- WRITE and WRITE_NOTIFY, before their elements are read: a type over 6 BADTYPE; no right to write
-- NOWTACCESS; a count of 0 or over the greatest, or a payload that is too short, BADCOUNT.
abbrev pub early_put_fault : RecordState → (rights : ℕ) → Fields → Option BaseType → Option ℕ
early_put_fault r rights m None = Some bad_type
early_put_fault r rights m (Some b) =
    first_fault (
    (not (may_write rights), no_write_access)
    ∷ (
      m.count == 0 || (nat_lt r.count m.count || nat_lt (length m.payload) (least_size b m.count)),
      bad_count,
    )
    ∷ []
    )

-- how many elements a subscription is for: a count of 0 is taken as the greatest
-- ("CA_PROTO_EVENT_ADD")
abbrev pub subscribed_count : RecordState → Fields → ℕ
subscribed_count r m = if m.count == 0 then r.count else m.count

-- EVENT_ADD: a type that the record has not BADTYPE; no right to read NORDACCESS; a payload under
-- 16 bytes, no mask bit, or the id in use on that channel, ADDFAIL; a count as in a read BADCOUNT;
-- no conversion NOCONVERT; 288 subscriptions on the circuit ADDFAIL.
abbrev pub subscription_fault : RecordState → (rights : ℕ) → (in_use : Bool) → (others : ℕ) → Fields
    → Option ImageType → Option ℕ
subscription_fault r rights in_use others m None = Some bad_type
subscription_fault r rights in_use others m (Some t) =
    first_fault (
    (lacks_type (display_of r.value) t, bad_type)
    ∷ (not (may_read rights), no_read_access)
    ∷ (nat_lt (length m.payload) 16 || (mask_in m % 16 == 0 || in_use), add_fail)
    ∷ (too_many r t (subscribed_count r m), bad_count)
    ∷ (lacks_conversion_to (display_of r.value) r.value (base_in t), no_convert)
    ∷ (not (nat_lt others (circuit_queues * queue_subscriptions)), add_fail)
    ∷ []
    )
