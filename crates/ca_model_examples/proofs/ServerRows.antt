-- The worked rows, computed.
use Rattle.std.specs.Float.{float_is_infinite}
use Rattle.std.specs.Float.Numeral.{scan_numeral}
use Rattle.std.specs.Float.Parse.{read_float}
use lib.Ieee.{climb, is_nan, odd, of_bits, of_fields, round, size, span, to_signed}
use Rattle.std.proofs.Common.{refl}
use Rattle.std.specs.Fmt.{digits}
use lib.Ieee.{of_bits, of_int, to_bits, to_signed}
use Rattle.ca_dbr.specs.Elements.{byte_1, bytes_2, bytes_4, bytes_8, signed_bytes_2, signed_bytes_4, string_bytes}
use Rattle.ca_wire.specs.Header.{extended_header, header_spelling, number16, number32, short_header}
use Rattle.ca_wire.specs.Message.{spelling}
use Rattle.ca_model_examples.specs.ServerRows.{BigSubscription, CancelSpelled, CancelledEntries, ClearSpelled, Converts, CreationSpelled, DisconnectSpelled, DisplayReadFaults, DisplaySubscriptionFaults, DisplayUpdateSpelled, EarlyPutFaults, EarlyPutFaultsInOrder, EchoSpelled, ErrorSpelled, FinishedPuts, GainAsTimeDouble, LatePutFaults, LatePutFaultsInOrder, ManyPosts, MasksShareBits, NoCid, NotFoundSpelled, PausedPosts, PausedTakes, PutSpelled, ReadFaults, ReadFaultsInOrder, ReadSpelled, ReadsUpToTheLimit, RightsAreBits, RulesDecide, SearchSpelled, ShortSubscription, SixteenWait, SubscriptionFaults, SubscriptionFaultsInOrder, TempAsStatusChar, TempAsString, TempAsTimeLong, UpdateSpelled, VersionSpelled, VoltAsControlLong, VoltAsDouble, VoltAsGraphicLong, VoltAsString, WaitingAfterCut, WaveAsChars, WrittenAsTimeLong}

pub temp-as-time-long : TempAsTimeLong
unfolding byte_1 bytes_2 bytes_4 bytes_8 signed_bytes_2 signed_bytes_4 string_bytes digits
temp-as-time-long = refl

pub temp-as-string : TempAsString
unfolding byte_1 bytes_2 bytes_4 bytes_8 signed_bytes_2 signed_bytes_4 string_bytes digits
temp-as-string = refl

pub temp-as-status-char : TempAsStatusChar
unfolding byte_1 bytes_2 bytes_4 bytes_8 signed_bytes_2 signed_bytes_4 string_bytes digits
temp-as-status-char = refl

pub gain-as-time-double : GainAsTimeDouble
unfolding byte_1 bytes_2 bytes_4 bytes_8 signed_bytes_2 signed_bytes_4 string_bytes digits
gain-as-time-double = refl

pub wave-as-chars : WaveAsChars
unfolding byte_1 bytes_2 bytes_4 bytes_8 signed_bytes_2 signed_bytes_4 string_bytes digits
wave-as-chars = (refl, refl)

pub written-as-time-long : WrittenAsTimeLong
unfolding byte_1 bytes_2 bytes_4 bytes_8 signed_bytes_2 signed_bytes_4 string_bytes digits
written-as-time-long = refl

pub volt-as-graphic-long : VoltAsGraphicLong
unfolding byte_1 bytes_2 bytes_4 bytes_8 signed_bytes_2 signed_bytes_4 string_bytes digits of_bits to_signed
volt-as-graphic-long = refl

pub volt-as-control-long : VoltAsControlLong
unfolding byte_1 bytes_2 bytes_4 bytes_8 signed_bytes_2 signed_bytes_4 string_bytes digits of_bits to_signed
volt-as-control-long = refl

pub volt-as-double : VoltAsDouble
unfolding byte_1 bytes_2 bytes_4 bytes_8 signed_bytes_2 signed_bytes_4 string_bytes digits of_int to_bits
volt-as-double = refl

pub volt-as-string : VoltAsString
unfolding byte_1 bytes_2 bytes_4 bytes_8 signed_bytes_2 signed_bytes_4 string_bytes digits
volt-as-string = refl

pub converts : Converts
unfolding of_bits of_fields is_nan odd climb float_is_infinite span size round read_float scan_numeral to_signed
converts = (refl, refl, refl, refl, refl, refl, refl, refl)

pub read-faults : ReadFaults
read-faults = (refl, refl, refl, refl, refl, refl, refl)

pub read-faults-in-order : ReadFaultsInOrder
read-faults-in-order = (refl, refl, refl, refl)

pub display-read-faults : DisplayReadFaults
display-read-faults = (refl, refl, refl, refl, refl, refl, refl)

pub reads-up-to-the-limit : ReadsUpToTheLimit
reads-up-to-the-limit = (refl, refl)

pub early-put-faults : EarlyPutFaults
early-put-faults = (refl, refl, refl, refl, refl, refl, refl, refl)

pub early-put-faults-in-order : EarlyPutFaultsInOrder
early-put-faults-in-order = (refl, refl)

pub late-put-faults : LatePutFaults
late-put-faults = (refl, refl, refl, refl, refl)

pub late-put-faults-in-order : LatePutFaultsInOrder
late-put-faults-in-order = refl

pub subscription-faults : SubscriptionFaults
unfolding number16
subscription-faults = (refl, refl, refl, refl, refl, refl, refl, refl, refl, refl)

pub short-subscription : ShortSubscription
unfolding number16
short-subscription = refl

pub subscription-faults-in-order : SubscriptionFaultsInOrder
unfolding number16
subscription-faults-in-order = (refl, refl, refl, refl, refl)

pub display-subscription-faults : DisplaySubscriptionFaults
unfolding number16
display-subscription-faults = (refl, refl, refl, refl)

pub big-subscription : BigSubscription
unfolding number16
big-subscription = (refl, refl)

pub rules-decide : RulesDecide
rules-decide = (refl, refl, refl, refl, refl, refl)

pub rights-are-bits : RightsAreBits
rights-are-bits = (refl, refl)

pub version-spelled : VersionSpelled
unfolding bytes_2 bytes_4 signed_bytes_4 spelling header_spelling short_header extended_header number16 number32
version-spelled = refl

pub echo-spelled : EchoSpelled
unfolding bytes_2 bytes_4 signed_bytes_4 spelling header_spelling short_header extended_header number16 number32
echo-spelled = refl

pub search-spelled : SearchSpelled
unfolding bytes_2 bytes_4 signed_bytes_4 spelling header_spelling short_header extended_header number16 number32
search-spelled = refl

pub not-found-spelled : NotFoundSpelled
unfolding bytes_2 bytes_4 signed_bytes_4 spelling header_spelling short_header extended_header number16 number32
not-found-spelled = refl

pub creation-spelled : CreationSpelled
unfolding bytes_2 bytes_4 signed_bytes_4 spelling header_spelling short_header extended_header number16 number32
creation-spelled = (refl, refl, refl)

pub read-spelled : ReadSpelled
unfolding bytes_2 bytes_4 signed_bytes_4 spelling header_spelling short_header extended_header number16 number32
read-spelled = (refl, refl)

pub put-spelled : PutSpelled
unfolding bytes_2 bytes_4 signed_bytes_4 spelling header_spelling short_header extended_header number16 number32
put-spelled = refl

pub update-spelled : UpdateSpelled
unfolding bytes_2 bytes_4 signed_bytes_4 spelling header_spelling short_header extended_header number16 number32
update-spelled = (refl, refl)

pub display-update-spelled : DisplayUpdateSpelled
unfolding bytes_2 bytes_4 signed_bytes_4 spelling header_spelling short_header extended_header number16 number32 of_bits to_signed
display-update-spelled = refl

pub cancel-spelled : CancelSpelled
unfolding bytes_2 bytes_4 signed_bytes_4 spelling header_spelling short_header extended_header number16 number32
cancel-spelled = refl

pub clear-spelled : ClearSpelled
unfolding bytes_2 bytes_4 signed_bytes_4 spelling header_spelling short_header extended_header number16 number32
clear-spelled = refl

pub error-spelled : ErrorSpelled
unfolding bytes_2 bytes_4 signed_bytes_4 spelling header_spelling short_header extended_header number16 number32
error-spelled = refl

pub no-cid : NoCid
no-cid = refl

pub disconnect-spelled : DisconnectSpelled
unfolding bytes_2 bytes_4 signed_bytes_4 spelling header_spelling short_header extended_header number16 number32
disconnect-spelled = refl

pub many-posts : ManyPosts
many-posts = refl

pub paused-posts : PausedPosts
paused-posts = (refl, refl, refl)

pub paused-takes : PausedTakes
paused-takes = (refl, refl, refl)

pub cancelled-entries : CancelledEntries
cancelled-entries = refl

pub masks-share-bits : MasksShareBits
masks-share-bits = refl

pub sixteen-wait : SixteenWait
sixteen-wait = (refl, refl, refl)

pub waiting-after-cut : WaitingAfterCut
waiting-after-cut = (refl, refl, refl)

pub finished-puts : FinishedPuts
finished-puts = (refl, refl, refl, refl, refl, refl)
