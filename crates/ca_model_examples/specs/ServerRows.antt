-- Vocabulary: worked rows of the definitions that compute at a server. What is expected is the
-- protocol's own bytes and numbers.
use Rattle.std.specs.Prelude.{ℕ, ◌≡◌, ◌==◌, ℤ, pos, negsuc, Bool, true, false, List, [], ◌∷◌, ◌++◌}
use Rattle.std.specs.Prelude.{Option, Some, None, Result, Ok, Err, length, map, replicate}
use Rattle.std.specs.List.{fold, range_with_len}
use Rattle.ca_text.specs.declared.command.Command.TheVariants as command
use Rattle.ca_text.specs.declared.refusal.Refusal.{Refusal}
use Rattle.ca_text.specs.declared.refusal.Refusal.TheVariants as refusal
use Rattle.ca_text.specs.Status.{bad_count}
use Rattle.ca_dbr.specs.declared.data_type.BaseType.TheVariants as base
use Rattle.ca_dbr.specs.Conversion.{converted}
use Rattle.ca_dbr.specs.Elements.{Elements, displayed, doubles, longs, strings}
use Rattle.ca_dbr.specs.Held.{kind_of}
use Rattle.ca_display.specs.declared.image_type.ImageType.{ImageType}
use Rattle.ca_records.specs.Faults.{late_put_fault}
use Rattle.ca_records.specs.Given.{given_as}
use Rattle.ca_records.specs.declared.puts.Put.{Put}
use Rattle.ca_records.specs.Puts.{Record, WaitingPut, finished, with_waiting, withdrawn}
use Rattle.ca_records.specs.Puts.{written_meta}
use Rattle.ca_records.specs.Record.{RecordState, unset}
use Rattle.ca_records.specs.Rules.{Rule, may_read, may_write, rights}
use Rattle.ca_queue.specs.declared.entry.SubKey.{SubKey}
use Rattle.ca_queue.specs.Waiting.{after_cancel, after_post, after_take, taken}
use Rattle.ca_wire.specs.Fields.{Fields, padded}
use Rattle.ca_wire.specs.Message.{spelling}
use Rattle.ca_wire.specs.declared.requests.Wanted.{Wanted}
use Rattle.ca_wire.specs.Messages.{header_only, cancel_reply, cleared_reply, clear_request}
use Rattle.ca_wire.specs.Messages.{create_request}
use Rattle.ca_wire.specs.Messages.{created_reply, disconnect, error_reply, event_add_request}
use Rattle.ca_wire.specs.Messages.{event_cancel_request, failed_reply, no_cid, not_found_reply}
use Rattle.ca_wire.specs.Messages.{put_request, read_request, rights_reply, search_reply}
use Rattle.ca_wire.specs.Messages.{search_request, status_reply, value_reply, version_reply}
use Rattle.ca_model.specs.Faults.{early_put_fault, read_fault, read_shown, subscription_fault}
use Rattle.ca_model.specs.Images.{base_type_of, image_of, image_type_of}
use Rattle.ca_model.specs.Speech.{share_bit}
use Rattle.ca_model.specs.Updates.{update_in}
use Rattle.ca_model_examples.specs.Worlds.{temp, temp_name}

-- ---- the records

-- 1.0 as a DOUBLE
abbrev pub one : ℕ
one = 4607182418800017408

abbrev pub gain : RecordState
gain = record {
  name = 71 ∷ 65 ∷ 73 ∷ 78 ∷ [];
  count = 1;
  slow = false;
  value = doubles (one ∷ []);
  meta = unset;
}

-- the STRING "OK"
abbrev pub note : RecordState
note = record {
  name = 78 ∷ 79 ∷ 84 ∷ 69 ∷ [];
  count = 1;
  slow = false;
  value = strings ((79 ∷ 75 ∷ replicate 38 0) ∷ []);
  meta = unset;
}

-- up to 20,000 LONGs, of which there is one
abbrev pub wave : RecordState
wave = record {
  name = 87 ∷ 65 ∷ 86 ∷ 69 ∷ [];
  count = 20000;
  slow = false;
  value = longs (pos 7 ∷ []);
  meta = unset;
}

abbrev pub slow_name : List ℕ
slow_name = 83 ∷ 76 ∷ 79 ∷ 87 ∷ []

abbrev pub slow : RecordState
slow = record { name = slow_name; count = 1; slow = true; value = longs (pos 0 ∷ []); meta = unset }

-- 21 volts, as a LONG with a precision of 2: on a display from -10 to 100, a warning below 10 and
-- above 80, an alarm below 5 and above 90, and from 1 to 60 for control
abbrev pub volt : RecordState
volt = record {
  name = 86 ∷ 79 ∷ 76 ∷ 84 ∷ [];
  count = 1;
  slow = false;
  value =
      displayed
      (record {
        units = 86 ∷ replicate 7 0;
        precision = pos 2;
        limits =
            4636737291354636288 ∷ 13845191154443747328 ∷ 4636033603912859648 ∷ 4635329916471083008
            ∷ 4621819117588971520 ∷ 4617315517961601024 ∷ 4633641066610819072 ∷ one ∷ [];
        states = [];
      })
      (longs (pos 21 ∷ []));
  meta = unset;
}

abbrev pub big : RecordState
big = record {
  name = 66 ∷ 73 ∷ 71 ∷ [];
  count = 262144;
  slow = false;
  value = doubles (0 ∷ []);
  meta = unset;
}

-- ---- the messages: on SID 00010000, with the id 00010000

abbrev pub on_first : (data_type count : ℕ) → Wanted
on_first data_type count = record { sid = 65536; id = 65536; data_type = data_type; count = count }

abbrev pub read_of : (data_type count : ℕ) → Fields
read_of data_type count = read_request (on_first data_type count)

abbrev pub add_of : (data_type count mask : ℕ) → Fields
add_of data_type count mask = event_add_request (on_first data_type count) mask

-- ---- images

abbrev pub image_if : RecordState → ImageType → Result Elements Refusal → List ℕ
image_if r t (Ok e) = image_of r.value t e r.meta
image_if r t (Err fault) = []

abbrev pub read_image : RecordState → Fields → Option ImageType → List ℕ
read_image r m (Some t) = image_if r t (read_shown r m t)
read_image r m None = []

-- what a read of n elements in the type of this number shows
abbrev pub shown_as : (number : ℕ) → RecordState → (count : ℕ) → List ℕ
shown_as number r count = read_image r (read_of number count) (image_type_of number)

-- TEMP is 21: as TIME_LONG, as STRING, and as STS_CHAR
abbrev pub TempAsTimeLong : Type 0
TempAsTimeLong = shown_as 19 temp 1 ≡ replicate 12 0 ++ 0 ∷ 0 ∷ 0 ∷ 21 ∷ []

abbrev pub TempAsString : Type 0
TempAsString = shown_as 0 temp 1 ≡ 50 ∷ 49 ∷ replicate 38 0

abbrev pub TempAsStatusChar : Type 0
TempAsStatusChar = padded (shown_as 11 temp 1) ≡ 0 ∷ 0 ∷ 0 ∷ 0 ∷ 0 ∷ 21 ∷ 0 ∷ 0 ∷ []

-- GAIN is 1.0: as TIME_DOUBLE
abbrev pub GainAsTimeDouble : Type 0
GainAsTimeDouble = shown_as 20 gain 1 ≡ replicate 16 0 ++ 63 ∷ 240 ∷ 0 ∷ 0 ∷ 0 ∷ 0 ∷ 0 ∷ 0 ∷ []

-- WAVE has one element, 7: three of them as CHAR; and a count of 0 means that one
abbrev pub WaveAsChars : Type 0
WaveAsChars =
    (padded (shown_as 4 wave 3) ≡ 7 ∷ 0 ∷ 0 ∷ 0 ∷ 0 ∷ 0 ∷ 0 ∷ 0 ∷ []) × (shown_as 4 wave 0 ≡ 7 ∷ [])

-- a written value has no alarm, as it has no limits, and the stamp of the write
abbrev pub WrittenAsTimeLong : Type 0
WrittenAsTimeLong =
    shown_as 19
    (record temp { meta = written_meta temp.value (record { seconds = 258; nanos = 3 }) }) 1
    ≡ 0 ∷ 0 ∷ 0 ∷ 0 ∷ 0 ∷ 0 ∷ 1 ∷ 2 ∷ 0 ∷ 0 ∷ 0 ∷ 3 ∷ 0 ∷ 0 ∷ 0 ∷ 21 ∷ []

-- VOLT is 21 V: as GR_LONG, with its unit and six limits; as CTRL_LONG, with the two limits for
-- control after these; as DOUBLE; and as STRING
abbrev pub VoltAsGraphicLong : Type 0
VoltAsGraphicLong =
    shown_as 26 volt 1
    ≡ 0 ∷ 0 ∷ 0 ∷ 0 ∷ 86 ∷ 0 ∷ 0 ∷ 0 ∷ 0 ∷ 0 ∷ 0 ∷ 0 ∷ 0 ∷ 0 ∷ 0 ∷ 100 ∷ 255 ∷ 255 ∷ 255 ∷ 246
    ∷ 0 ∷ 0 ∷ 0 ∷ 90 ∷ 0 ∷ 0 ∷ 0 ∷ 80 ∷ 0 ∷ 0 ∷ 0 ∷ 10 ∷ 0 ∷ 0 ∷ 0 ∷ 5 ∷ 0 ∷ 0 ∷ 0 ∷ 21 ∷ []

abbrev pub VoltAsControlLong : Type 0
VoltAsControlLong =
    shown_as 33 volt 1
    ≡ 0 ∷ 0 ∷ 0 ∷ 0 ∷ 86 ∷ 0 ∷ 0 ∷ 0 ∷ 0 ∷ 0 ∷ 0 ∷ 0 ∷ 0 ∷ 0 ∷ 0 ∷ 100 ∷ 255 ∷ 255 ∷ 255 ∷ 246
    ∷ 0 ∷ 0 ∷ 0 ∷ 90 ∷ 0 ∷ 0 ∷ 0 ∷ 80 ∷ 0 ∷ 0 ∷ 0 ∷ 10 ∷ 0 ∷ 0 ∷ 0 ∷ 5 ∷ 0 ∷ 0 ∷ 0 ∷ 60
    ∷ 0 ∷ 0 ∷ 0 ∷ 1 ∷ 0 ∷ 0 ∷ 0 ∷ 21 ∷ []

abbrev pub VoltAsDouble : Type 0
VoltAsDouble = shown_as 6 volt 1 ≡ 64 ∷ 53 ∷ 0 ∷ 0 ∷ 0 ∷ 0 ∷ 0 ∷ 0 ∷ []

abbrev pub VoltAsString : Type 0
VoltAsString = shown_as 0 volt 1 ≡ 50 ∷ 49 ∷ replicate 38 0

-- ---- conversions

-- "42", "4x2" and "-1" as a STRING
abbrev pub text_42 : Elements
text_42 = strings ((52 ∷ 50 ∷ replicate 38 0) ∷ [])

abbrev pub text_4x2 : Elements
text_4x2 = strings ((52 ∷ 120 ∷ 50 ∷ replicate 37 0) ∷ [])

abbrev pub text_minus_1 : Elements
text_minus_1 = strings ((45 ∷ 49 ∷ replicate 38 0) ∷ [])

-- "2.75", and that as a DOUBLE
abbrev pub text_2_75 : Elements
text_2_75 = strings ((50 ∷ 46 ∷ 55 ∷ 53 ∷ replicate 36 0) ∷ [])

abbrev pub text_1e309 : Elements
text_1e309 = strings ((49 ∷ 101 ∷ 51 ∷ 48 ∷ 57 ∷ replicate 35 0) ∷ [])

abbrev pub double_2_75 : Elements
double_2_75 = doubles (4613374868287651840 ∷ [])

-- a LONG in millimetres
abbrev pub in_mm : ℤ → Elements
in_mm z =
    displayed
    (record {
      units = 109 ∷ 109 ∷ replicate 6 0;
      precision = pos 0;
      limits = replicate 8 0;
      states = [];
    })
    (longs (z ∷ []))

-- "42" is 42, "4x2" is no number, and "-1" as CHAR lies outside; and what is written to a record
-- with display data has its unit, and is a number towards zero, where 1e309 is none
abbrev pub Converts : Type 0
Converts =
    (converted text_42 base.Long ≡ Ok (longs (pos 42 ∷ [])))
    × (converted text_4x2 base.Long ≡ Err refusal.BadText)
    × (converted text_minus_1 base.Long ≡ Ok (longs (negsuc 0 ∷ [])))
    × (converted (longs (negsuc 0 ∷ [])) base.Char ≡ Err refusal.OutOfRange)
    × (given_as text_42 (kind_of (in_mm (pos 21))) ≡ Ok (in_mm (pos 42)))
    × (given_as text_2_75 (kind_of (in_mm (pos 21))) ≡ Ok (in_mm (pos 2)))
    × (given_as double_2_75 (kind_of (in_mm (pos 21))) ≡ Ok (in_mm (pos 2)))
    × (given_as text_1e309 (kind_of (in_mm (pos 21))) ≡ Err refusal.BadText)

-- ---- faults of a read, in their order: of each two that follow each other the first decides

abbrev pub fault_of : RecordState → (rights data_type count : ℕ) → Option ℕ
fault_of r rights data_type count =
    read_fault r rights (read_of data_type count) (image_type_of data_type)

-- type 21 BADTYPE, no right NORDACCESS, 70,000 elements of TEMP BADCOUNT, TEMP as FLOAT NOCONVERT,
-- NOTE as LONG GETFAIL
abbrev pub ReadFaults : Type 0
ReadFaults =
    (fault_of temp 3 21 1 ≡ Some 114) × (fault_of temp 2 5 1 ≡ Some 368)
    × (fault_of temp 3 5 70000 ≡ Some 176) × (fault_of temp 3 2 1 ≡ Some 400)
    × (fault_of note 3 5 1 ≡ Some 152) × (fault_of temp 1 5 1 ≡ None)
    × (fault_of temp 1 19 0 ≡ None)

-- type 34 and no right; no right and 70,000 elements; two elements of TEMP as FLOAT; two of NOTE as
-- LONG
abbrev pub ReadFaultsInOrder : Type 0
ReadFaultsInOrder =
    (fault_of temp 0 34 1 ≡ Some 114) × (fault_of temp 0 5 70000 ≡ Some 368)
    × (fault_of temp 1 2 2 ≡ Some 176) × (fault_of note 1 5 2 ≡ Some 176)

-- VOLT has the types 21 to 34, and is shown as FLOAT; type 35 is BADTYPE, also without a right;
-- CTRL_DOUBLE without a right is NORDACCESS, and two elements as GR_LONG are BADCOUNT
abbrev pub DisplayReadFaults : Type 0
DisplayReadFaults =
    (fault_of volt 3 21 1 ≡ None) × (fault_of volt 3 34 1 ≡ None)
    × (fault_of volt 3 35 1 ≡ Some 114) × (fault_of volt 0 35 1 ≡ Some 114)
    × (fault_of volt 3 2 1 ≡ None) × (fault_of volt 2 34 1 ≡ Some 368)
    × (fault_of volt 3 26 2 ≡ Some 176)

-- 419,430 STRINGs are 16,777,200 bytes, and one more is over the payload limit
abbrev pub ReadsUpToTheLimit : Type 0
ReadsUpToTheLimit =
    let r : RecordState =
    record wave { count = 500000 } in (fault_of r 3 0 419430 ≡ None)
    × (fault_of r 3 0 419431 ≡ Some 176)

-- ---- faults of puts

-- a put of n elements, with these bytes
abbrev pub put_of : (data_type count : ℕ) → List ℕ → Fields
put_of data_type count bytes = put_request command.WriteNotify (on_first data_type count) bytes

abbrev pub early : RecordState → (rights data_type count : ℕ) → List ℕ → Option ℕ
early r rights data_type count bytes =
    early_put_fault r rights (put_of data_type count bytes) (base_type_of data_type)

-- a type with a status BADTYPE, no right NOWTACCESS; no element, two of TEMP, or three LONGs in 8
-- bytes BADCOUNT
abbrev pub EarlyPutFaults : Type 0
EarlyPutFaults =
    (early temp 3 7 1 (0 ∷ []) ≡ Some 114) × (early temp 1 5 1 (0 ∷ []) ≡ Some 376)
    × (early temp 3 5 0 [] ≡ Some 176) × (early temp 3 5 2 (0 ∷ []) ≡ Some 176)
    × (early wave 3 5 3 (0 ∷ []) ≡ Some 176) × (early wave 3 5 2 (0 ∷ []) ≡ None)
    × (early temp 2 6 1 (0 ∷ []) ≡ None) × (early temp 2 0 1 [] ≡ None)

-- a type with a status and no right; no right and no element
abbrev pub EarlyPutFaultsInOrder : Type 0
EarlyPutFaultsInOrder = (early temp 1 7 1 (0 ∷ []) ≡ Some 114) × (early temp 1 5 0 [] ≡ Some 376)

-- a text put to GAIN NOCONVERT, "4x2" to TEMP PUTFAIL, a put that waits as the seventeenth PUTFAIL
abbrev pub LatePutFaults : Type 0
LatePutFaults =
    (late_put_fault gain false 0 text_42 ≡ Some 400)
    × (late_put_fault temp false 0 text_4x2 ≡ Some 160)
    × (late_put_fault slow true 16 (longs (pos 9 ∷ [])) ≡ Some 160)
    × (late_put_fault slow true 15 (longs (pos 9 ∷ [])) ≡ None)
    × (late_put_fault slow false 16 (longs (pos 9 ∷ [])) ≡ None)

-- a text put to GAIN, which is busy and for which sixteen wait, is NOCONVERT
abbrev pub LatePutFaultsInOrder : Type 0
LatePutFaultsInOrder = late_put_fault gain true 16 text_42 ≡ Some 400

-- ---- faults of subscriptions

abbrev pub adding_fault : RecordState → (rights : ℕ) → (in_use : Bool) → (others : ℕ)
    → (data_type count mask : ℕ) → Option ℕ
adding_fault r rights in_use others data_type count mask =
    subscription_fault r rights in_use others (add_of data_type count mask)
    (image_type_of data_type)

-- type 21 BADTYPE, no right NORDACCESS, no mask bit ADDFAIL, an id in use ADDFAIL, two elements of
-- TEMP BADCOUNT, TEMP as FLOAT NOCONVERT, the 289th subscription ADDFAIL; NOTE as LONG is none,
-- since its updates say GETFAIL; and a count of 0 is none
abbrev pub SubscriptionFaults : Type 0
SubscriptionFaults =
    (adding_fault temp 3 false 0 21 1 1 ≡ Some 114) × (adding_fault temp 2 false 0 5 1 1 ≡ Some 368)
    × (adding_fault temp 3 false 0 5 1 16 ≡ Some 168)
    × (adding_fault temp 3 true 0 5 1 1 ≡ Some 168) × (adding_fault temp 3 false 0 5 2 1 ≡ Some 176)
    × (adding_fault temp 3 false 0 2 1 1 ≡ Some 400)
    × (adding_fault temp 3 false 288 5 1 1 ≡ Some 168)
    × (adding_fault temp 3 false 287 5 1 1 ≡ None) × (adding_fault note 3 false 0 5 1 8 ≡ None)
    × (adding_fault temp 1 false 0 5 0 1 ≡ None)

-- a payload of 8 bytes ADDFAIL
abbrev pub ShortSubscription : Type 0
ShortSubscription =
    subscription_fault temp 3 false 0 (record (add_of 5 1 1) { payload = replicate 8 1 })
    (image_type_of 5) ≡ Some 168

-- type 34 and no right; no right and no mask bit; no mask bit and two elements; two elements as
-- FLOAT; the 289th as FLOAT
abbrev pub SubscriptionFaultsInOrder : Type 0
SubscriptionFaultsInOrder =
    (adding_fault temp 0 false 0 34 1 1 ≡ Some 114) × (adding_fault temp 0 false 0 5 1 0 ≡ Some 368)
    × (adding_fault temp 1 false 0 5 2 0 ≡ Some 168)
    × (adding_fault temp 1 false 0 2 2 1 ≡ Some 176)
    × (adding_fault temp 1 false 288 2 1 1 ≡ Some 400)

-- VOLT as CTRL_DOUBLE and as FLOAT is none; type 35 is BADTYPE, and CTRL_DOUBLE without a right
-- NORDACCESS
abbrev pub DisplaySubscriptionFaults : Type 0
DisplaySubscriptionFaults =
    (adding_fault volt 3 false 0 34 1 1 ≡ None) × (adding_fault volt 3 false 0 2 1 1 ≡ None)
    × (adding_fault volt 3 false 0 35 1 1 ≡ Some 114)
    × (adding_fault volt 2 false 0 34 1 1 ≡ Some 368)

-- 262,144 DOUBLEs of BIG are none, and one more is over its greatest count
abbrev pub BigSubscription : Type 0
BigSubscription =
    (adding_fault big 3 false 0 6 262144 1 ≡ None)
    × (adding_fault big 3 false 0 6 262145 1 ≡ Some 176)

-- ---- rights by rules

abbrev pub eve : List ℕ
eve = 101 ∷ 118 ∷ 101 ∷ []

abbrev pub hall : List ℕ
hall = 104 ∷ 97 ∷ 108 ∷ 108 ∷ []

-- eve only reads TEMP; from hall nobody may do anything; and everybody else only writes SLOW
abbrev pub rules : List Rule
rules =
    record {
      user = Some eve;
      host = None;
      record_name = Some temp_name;
      reads = true;
      writes = false;
    }
    ∷ record { user = None; host = Some hall; record_name = None; reads = false; writes = false }
    ∷ record {
      user = None;
      host = None;
      record_name = Some slow_name;
      reads = false;
      writes = true;
    } ∷ []

-- The first rule that meets decides, and none means both rights.
abbrev pub RulesDecide : Type 0
RulesDecide =
    (rights rules eve hall temp_name ≡ 1) × (rights rules eve hall slow_name ≡ 0)
    × (rights rules [] hall temp_name ≡ 0) × (rights rules eve [] slow_name ≡ 2)
    × (rights rules [] [] temp_name ≡ 3) × (rights [] eve hall temp_name ≡ 3)

abbrev pub RightsAreBits : Type 0
RightsAreBits =
    (map may_read (0 ∷ 1 ∷ 2 ∷ 3 ∷ []) ≡ false ∷ true ∷ false ∷ true ∷ [])
    × (map may_write (0 ∷ 1 ∷ 2 ∷ 3 ∷ []) ≡ false ∷ false ∷ true ∷ true ∷ [])

-- ---- replies, byte by byte

abbrev pub VersionSpelled : Type 0
VersionSpelled = spelling version_reply ≡ 0 ∷ 0 ∷ 0 ∷ 0 ∷ 0 ∷ 0 ∷ 0 ∷ 13 ∷ replicate 8 0

abbrev pub EchoSpelled : Type 0
EchoSpelled = spelling (header_only command.Echo) ≡ 0 ∷ 23 ∷ replicate 14 0

-- a search for TEMP with the CID 00010000, answered by a server on port 5064
abbrev pub SearchSpelled : Type 0
SearchSpelled =
    spelling (search_reply 5064 (search_request 65536 temp_name))
    ≡ 0 ∷ 6 ∷ 0 ∷ 8 ∷ 19 ∷ 200 ∷ 0 ∷ 0 ∷ 255 ∷ 255 ∷ 255 ∷ 255 ∷ 0 ∷ 1 ∷ 0 ∷ 0 ∷ 0 ∷ 13
    ∷ replicate 6 0

-- and one of type 10 for a name that is not served
abbrev pub NotFoundSpelled : Type 0
NotFoundSpelled =
    spelling (not_found_reply (record (search_request 65536 temp_name) { data_type = 10 }))
    ≡ 0 ∷ 14 ∷ 0 ∷ 0 ∷ 0 ∷ 10 ∷ 0 ∷ 13 ∷ 0 ∷ 1 ∷ 0 ∷ 0 ∷ 0 ∷ 1 ∷ 0 ∷ 0 ∷ []

-- a CREATE_CHAN with the CID 00010000: the rights, the reply with SID 00020000, and the failure
abbrev pub CreationSpelled : Type 0
CreationSpelled =
    let m : Fields = create_request 65536 temp_name in
    (spelling (rights_reply m 3)
    ≡ 0 ∷ 22 ∷ 0 ∷ 0 ∷ 0 ∷ 0 ∷ 0 ∷ 0 ∷ 0 ∷ 1 ∷ 0 ∷ 0 ∷ 0 ∷ 0 ∷ 0 ∷ 3 ∷ [])
    × (spelling (created_reply m 5 1 131072)
    ≡ 0 ∷ 18 ∷ 0 ∷ 0 ∷ 0 ∷ 5 ∷ 0 ∷ 1 ∷ 0 ∷ 1 ∷ 0 ∷ 0 ∷ 0 ∷ 2 ∷ 0 ∷ 0 ∷ [])
    × (spelling (failed_reply m)
    ≡ 0 ∷ 26 ∷ 0 ∷ 0 ∷ 0 ∷ 0 ∷ 0 ∷ 0 ∷ 0 ∷ 1 ∷ 0 ∷ 0 ∷ 0 ∷ 0 ∷ 0 ∷ 0 ∷ [])

-- TEMP read as LONG, and refused with a count of 70,000, in the long form of a header
abbrev pub ReadSpelled : Type 0
ReadSpelled =
    (spelling (value_reply (read_of 5 1) 1 (shown_as 5 temp 1))
    ≡ 0 ∷ 15 ∷ 0 ∷ 8 ∷ 0 ∷ 5 ∷ 0 ∷ 1 ∷ 0 ∷ 0 ∷ 0 ∷ 1 ∷ 0 ∷ 1 ∷ 0 ∷ 0 ∷ 0 ∷ 0 ∷ 0 ∷ 21 ∷ 0 ∷ 0 ∷ 0
    ∷ 0 ∷ [])
    × (spelling (status_reply (read_of 5 70000) bad_count)
    ≡ 0 ∷ 15 ∷ 255 ∷ 255 ∷ 0 ∷ 5 ∷ 0 ∷ 0 ∷ 0 ∷ 0 ∷ 0 ∷ 176 ∷ 0 ∷ 1 ∷ 0 ∷ 0 ∷ 0 ∷ 0 ∷ 0 ∷ 0 ∷ 0 ∷ 1
    ∷ 17 ∷ 112 ∷ [])

-- a put with notification that is done has its header back, with NORMAL for the SID
abbrev pub PutSpelled : Type 0
PutSpelled =
    spelling (status_reply (put_of 5 1 (0 ∷ 0 ∷ 0 ∷ 5 ∷ [])) 1)
    ≡ 0 ∷ 19 ∷ 0 ∷ 0 ∷ 0 ∷ 5 ∷ 0 ∷ 1 ∷ 0 ∷ 0 ∷ 0 ∷ 1 ∷ 0 ∷ 1 ∷ 0 ∷ 0 ∷ []

-- the first update of TEMP, and of NOTE as LONG, which is GETFAIL with zero bytes
abbrev pub update_of : Wanted → RecordState → Option ImageType → Fields
update_of w r (Some t) =
    update_in w (record { value = r.value; meta = r.meta }) t (read_shown r (read_request w) t)
update_of w r None = header_only command.Error

abbrev pub UpdateSpelled : Type 0
UpdateSpelled =
    (spelling (update_of (on_first 5 1) temp (image_type_of 5))
    ≡ 0 ∷ 1 ∷ 0 ∷ 8 ∷ 0 ∷ 5 ∷ 0 ∷ 1 ∷ 0 ∷ 0 ∷ 0 ∷ 1 ∷ 0 ∷ 1 ∷ 0 ∷ 0 ∷ 0 ∷ 0 ∷ 0 ∷ 21 ∷ 0 ∷ 0 ∷ 0
    ∷ 0 ∷ [])
    × (spelling (update_of (on_first 5 1) note (image_type_of 5))
    ≡ 0 ∷ 1 ∷ 0 ∷ 8 ∷ 0 ∷ 5 ∷ 0 ∷ 1 ∷ 0 ∷ 0 ∷ 0 ∷ 152 ∷ 0 ∷ 1 ∷ 0 ∷ 0 ∷ replicate 8 0)

-- the first update of VOLT as GR_LONG
abbrev pub DisplayUpdateSpelled : Type 0
DisplayUpdateSpelled =
    spelling (update_of (on_first 26 1) volt (image_type_of 26))
    ≡ 0 ∷ 1 ∷ 0 ∷ 40 ∷ 0 ∷ 26 ∷ 0 ∷ 1 ∷ 0 ∷ 0 ∷ 0 ∷ 1 ∷ 0 ∷ 1 ∷ 0 ∷ 0 ∷ 0 ∷ 0 ∷ 0 ∷ 0 ∷ 86 ∷ 0 ∷ 0
    ∷ 0 ∷ 0 ∷ 0 ∷ 0 ∷ 0 ∷ 0 ∷ 0 ∷ 0 ∷ 100 ∷ 255 ∷ 255 ∷ 255 ∷ 246 ∷ 0 ∷ 0 ∷ 0 ∷ 90 ∷ 0 ∷ 0 ∷ 0
    ∷ 80 ∷ 0 ∷ 0 ∷ 0 ∷ 10 ∷ 0 ∷ 0 ∷ 0 ∷ 5 ∷ 0 ∷ 0 ∷ 0 ∷ 21 ∷ []

abbrev pub CancelSpelled : Type 0
CancelSpelled =
    spelling (cancel_reply (event_cancel_request (on_first 5 1)))
    ≡ 0 ∷ 1 ∷ 0 ∷ 0 ∷ 0 ∷ 5 ∷ 0 ∷ 1 ∷ 0 ∷ 1 ∷ 0 ∷ 0 ∷ 0 ∷ 1 ∷ 0 ∷ 0 ∷ []

abbrev pub ClearSpelled : Type 0
ClearSpelled =
    spelling (cleared_reply (clear_request 65536 131072))
    ≡ 0 ∷ 12 ∷ 0 ∷ 0 ∷ 0 ∷ 0 ∷ 0 ∷ 0 ∷ 0 ∷ 1 ∷ 0 ∷ 0 ∷ 0 ∷ 2 ∷ 0 ∷ 0 ∷ []

-- the ERROR for an EVENT_ADD without a mask bit quotes its header; on a SID that nobody has, its
-- CID is FFFFFFFF
abbrev pub ErrorSpelled : Type 0
ErrorSpelled =
    spelling (error_reply 65536 168 (add_of 5 1 0))
    ≡ 0 ∷ 11 ∷ 0 ∷ 24 ∷ 0 ∷ 0 ∷ 0 ∷ 0 ∷ 0 ∷ 1 ∷ 0 ∷ 0 ∷ 0 ∷ 0 ∷ 0 ∷ 168
    ∷ 0 ∷ 1 ∷ 0 ∷ 16 ∷ 0 ∷ 5 ∷ 0 ∷ 1 ∷ 0 ∷ 1 ∷ 0 ∷ 0 ∷ 0 ∷ 1 ∷ 0 ∷ 0
    ∷ replicate 8 0

abbrev pub NoCid : Type 0
NoCid = no_cid ≡ 4294967295

abbrev pub DisconnectSpelled : Type 0
DisconnectSpelled =
    spelling (disconnect 65536)
    ≡ 0 ∷ 27 ∷ 0 ∷ 0 ∷ 0 ∷ 0 ∷ 0 ∷ 0 ∷ 0 ∷ 1 ∷ 0 ∷ 0 ∷ 0 ∷ 0 ∷ 0 ∷ 0 ∷ []

-- ---- the queue

abbrev pub key : SubKey
key = record { sid = 65536; sub = 65536 }

abbrev pub other_key : SubKey
other_key = record { sid = 65536; sub = 65537 }

abbrev pub after_posts : Bool → List (SubKey × ℕ) → List ℕ → List (SubKey × ℕ)
after_posts on q posts = fold (λ (w : List (SubKey × ℕ)) (n : ℕ). after_post on key n w) q posts

abbrev pub values : List (SubKey × ℕ) → List ℕ
values q = map (λ (w : SubKey × ℕ). w.1) q

-- The first value and 200 posts, none taken: the first value, the posts 1 to 106, and post 200.
abbrev pub ManyPosts : Type 0
ManyPosts =
    values (after_posts true ((key, 0) ∷ []) (range_with_len 1 200)) ≡ range_with_len 0 107
    ++ 200 ∷ []

-- The queue empty and events off, three posts: nothing may be taken; events on: the third alone.
abbrev pub PausedPosts : Type 0
PausedPosts =
    let q : List (SubKey × ℕ) =
    after_posts false [] (1 ∷ 2 ∷ 3 ∷ []) in (taken false q ≡ None) × (taken true q ≡ Some (key, 3))
    × (after_take true q ≡ [])

-- Three entries of one subscription when events go off: two are taken, and the last stays.
abbrev pub three_entries : List (SubKey × ℕ)
three_entries = (key, 1) ∷ (key, 2) ∷ (key, 3) ∷ []

abbrev pub PausedTakes : Type 0
PausedTakes =
    let second : List (SubKey × ℕ) = after_take false three_entries in
    (taken false three_entries ≡ Some (key, 1)) × (taken false second ≡ Some (key, 2))
    × (taken false (after_take false second) ≡ None)

-- A cancel takes out the entries of its own subscription alone.
abbrev pub CancelledEntries : Type 0
CancelledEntries = values (after_cancel key ((key, 1) ∷ (other_key, 2) ∷ (key, 3) ∷ [])) ≡ 2 ∷ []

-- A post reaches a subscription that shares one of the four mask bits with it.
abbrev pub MasksShareBits : Type 0
MasksShareBits =
    map (share_bit 3) (1 ∷ 2 ∷ 4 ∷ 8 ∷ 7 ∷ 16 ∷ [])
    ≡ true ∷ true ∷ false ∷ false ∷ true ∷ false ∷ []

-- ---- a slow record

-- the put with this IOID on a circuit
abbrev pub slow_put : (circuit ioid : ℕ) → WaitingPut
slow_put circuit ioid =
    record {
      put = record {
        circuit = record { index = circuit; generation = 1 };
        channel = record { index = 0; generation = 1 };
        data_type = 5;
        count = 1;
        ioid = ioid;
      };
      value = longs (pos ioid ∷ []);
    }

-- busy with the put 5 of circuit 0, and as many puts of that circuit wait
abbrev pub busy_slow : ℕ → Record
busy_slow others =
    fold (λ (r : Record) (n : ℕ). with_waiting (slow_put 0 n) r)
    (record {
      state = record slow { value = longs (pos 5 ∷ []) };
      busy = Some (slow_put 0 5).put;
      waiting = [];
    }) (range_with_len 6 others)

abbrev pub waiting_of : List Record → List ℕ
waiting_of [] = []
waiting_of (r ∷ rs) = map (λ (p : WaitingPut). p.put.ioid) r.waiting

-- Sixteen puts wait, in the order in which they came, and the next is PUTFAIL.
abbrev pub SixteenWait : Type 0
SixteenWait =
    (waiting_of (busy_slow 16 ∷ []) ≡ range_with_len 6 16)
    × (late_put_fault slow true (length (busy_slow 16).waiting) (longs (pos 9 ∷ [])) ≡ Some 160)
    × (late_put_fault slow true (length (busy_slow 15).waiting) (longs (pos 9 ∷ [])) ≡ None)

-- When their circuit ends only those of another circuit wait, and the value is the first put's,
-- which is still busy.
abbrev pub WaitingAfterCut : Type 0
WaitingAfterCut =
    let rs : List Record =
    withdrawn (λ (p : Put). p.circuit.index == 0)
    (with_waiting (slow_put 1 30) (busy_slow 16) ∷ []) in
    (waiting_of rs ≡ 30 ∷ []) × (map (λ (r : Record). r.state.value) rs ≡ longs (pos 5 ∷ []) ∷ [])
    × (map (λ (r : Record). r.busy) rs ≡ Some (slow_put 0 5).put ∷ [])

-- When the put is finished the first that waits has the value, with the stamp of now, and makes the
-- record busy; and then the next.
abbrev pub FinishedPuts : Type 0
FinishedPuts =
    let now : Record → Record =
    λ (r : Record). finished (record { seconds = 8; nanos = 9 }) r r.waiting in
    let first : Record = now (busy_slow 2) in
    (first.state.value ≡ longs (pos 6 ∷ []))
    × (first.state.meta ≡ record { status = 0; severity = 0; seconds = 8; nanos = 9 })
    × (first.busy ≡ Some (slow_put 0 6).put)
    × (waiting_of (first ∷ []) ≡ 7 ∷ []) × ((now (now first)).busy ≡ None)
    × ((now (now first)).state.value ≡ longs (pos 7 ∷ []))
