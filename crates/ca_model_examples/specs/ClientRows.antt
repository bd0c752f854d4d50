-- Vocabulary's examples: one client of TEMP, by what its definitions compute. Each expected value
-- is one of the worked rows.
use Rattle.std.specs.Prelude.{ℕ, ◌≡◌, ◌++◌, true, false, zero, suc, pos, List, [], ◌∷◌, Option}
use Rattle.std.specs.Prelude.{Some, None, Ok, Err, length, map, option_map, replicate}
use Rattle.ca_text.specs.declared.command.Command.TheVariants as command
use Rattle.ca_text.specs.declared.refusal.Refusal.{Refusal}
use Rattle.ca_text.specs.declared.refusal.Refusal.TheVariants as refusal
use Rattle.ca_dbr.specs.Elements.{longs}
use Rattle.ca_dbr.specs.declared.value.Outcome.TheVariants as outcome
use Rattle.ca_arena.specs.Arena.{place_at}
use Rattle.ca_arena.specs.declared.handle.Handle.{Handle}
use Rattle.ca_ids.specs.Table.{held, with_held}
use Rattle.ca_ids.specs.Wire.{wire_of}
use Rattle.ca_wire.specs.Fields.{Fields}
use Rattle.ca_wire.specs.Messages.{header_only, clear_request, search_request, update}
use Rattle.ca_wire.specs.Message.{spelled}
use Rattle.ca_monitor.specs.ReadRun.{ReadRun, after_read, no_reads, sent_by_read}
use Rattle.ca_monitor.specs.Subscriptions.{Subscription, confirmed_by}
use Rattle.ca_requests.specs.Requests.{answered_by, asks_on}
use Rattle.ca_requests.specs.Requests as request
use Rattle.ca_model.specs.Ends.{Address}
use Rattle.ca_model.specs.Ends as why
use Rattle.ca_model.specs.Answers.{Closing, Notice, Sending}
use Rattle.ca_model.specs.Answers as notice
use Rattle.ca_model.specs.ChannelState.{ChannelState, channel_state}
use Rattle.ca_model.specs.ChannelState as state
use Rattle.ca_model.specs.Client.{Channel, Client, On, Searching, channel_on, closing}
use Rattle.ca_model.specs.Client.{disconnections, ended, new_circuit, out_bytes, sending}
use Rattle.ca_model.specs.Client.{with_standing}
use Rattle.ca_model.specs.Client as phase
use Rattle.ca_model.specs.ClientCalls.{LiveChannel, Shape, cleared, clearing_sent, event_add_sent}
use Rattle.ca_model.specs.ClientCalls.{issued, new_subscription, opened, put_fault, read_fault}
use Rattle.ca_model.specs.ClientCalls.{read_sent, unsubscribed, wanted}
use Rattle.ca_model.specs.ClientEnds.{Ticking, beacon_heard, begun, circuits_ticked, creations, due}
use Rattle.ca_model.specs.ClientEnds.{new_client, packed, searches_made, set_up, ticked}
use Rattle.ca_model.specs.Hears.{Effect, Hears, becomes, clear_answered, confirmed, created}
use Rattle.ca_model.specs.Hears.{subscription_on, left, put_on, rights_told, with_circuit}
use Rattle.ca_model.specs.Hears.{without_request}

-- the first handle of a table, the second, and the first given again
abbrev pub first : Handle
first = record { index = 0; generation = 1 }

abbrev pub second : Handle
second = record { index = 1; generation = 1 }

abbrev pub again : Handle
again = record { index = 0; generation = 2 }

-- ---- a channel becomes live

-- 127.0.0.1:5064
abbrev pub home : Address
home = record { host = 0x7f000001; port = 5064 }

abbrev pub temp : List ℕ
temp = 84 ∷ 69 ∷ 77 ∷ 80 ∷ []

-- a client of anna at hall, with these name servers
abbrev pub anna : List Address → Client
anna names = new_client (record {
  peer = record { user = 97 ∷ 110 ∷ 110 ∷ 97 ∷ []; host = 104 ∷ 97 ∷ 108 ∷ 108 ∷ [] };
  servers = home ∷ [];
  names = names;
  now = 0;
})

-- TEMP is opened, and found: its circuit is wanted
abbrev pub with_temp : Client → Client
with_temp x = opened (record { name = temp; priority = 0; now = 0 }) first x

abbrev pub temp_channel : Channel
temp_channel = record { name = temp; priority = 0; standing = Searching }

abbrev pub found : Client
found = (put_on first None first temp_channel
    (with_circuit first (new_circuit home 0 false) (with_temp (anna [])))).core

-- its circuit is connected
abbrev pub greeted : Client
greeted =
    sending (set_up found.peer first (new_circuit home 0 false) ++ creations first found)
    (begun first found)

-- The set-up and the CREATE_CHAN are 88 bytes.
abbrev pub Greets : Type 0
Greets = (length (out_bytes greeted first) ≡ 88) × (channel_state greeted first ≡ Ok state.Creating)

-- a server's message on TEMP
abbrev pub rights : Fields
rights = record (header_only command.AccessRights) { p1 = 65536; p2 = 3 }

abbrev pub created_temp : Fields
created_temp =
    record (header_only command.CreateChannel) { data_type = 5; count = 1; p1 = 65536; p2 = 65536 }

abbrev pub permitted : Client
permitted = (rights_told greeted first rights (channel_on greeted first 65536)).core

abbrev pub alive : Effect
alive = created permitted first created_temp (channel_on permitted first 65536)

-- TEMP as it is live, and a LONG of it
abbrev pub live_temp : LiveChannel
live_temp =
    record {
      circuit = first;
      native = record { sid = 65536; data_type = 5; count = 1 };
      rights = 3;
    }

abbrev pub one_long : Shape
one_long = record { data_type = 5; count = 1 }

-- a read of TEMP
abbrev pub reading : Client
reading =
    sending (read_sent first live_temp one_long first ∷ [])
    (issued first live_temp (request.Read 5 1) first alive.core)

-- It is live, and the read is `000F 0000 0005 0001 00010000 00010000`.
abbrev pub LiveAndRead : Type 0
LiveAndRead =
    (alive.notices ≡ notice.Live first ∷ [])
    × (channel_state alive.core first ≡ Ok (state.Live 5 1 3))
    × (spelled ((read_sent first live_temp one_long first).message ∷ [])
    ≡ 0 ∷ 15 ∷ 0 ∷ 0 ∷ 0 ∷ 5 ∷ 0 ∷ 1 ∷ 0 ∷ 1 ∷ 0 ∷ 0 ∷ 0 ∷ 1 ∷ 0 ∷ 0 ∷ [])
    × (length (out_bytes reading first) ≡ 104)

-- The reply to its CREATE_CHAN does just this, and is never skipped.
abbrev pub OnlyLive : Type 0
OnlyLive =
    Hears permitted first created_temp alive
    × ((e : Effect) → Hears permitted first created_temp e → e ≡ alive)

-- why a read of this type and count is refused while TEMP has these rights
abbrev pub refused : (rights : ℕ) → (data_type count : ℕ) → Option Refusal
refused rights data_type count =
    let x : Client =
    with_standing (On first (phase.Live live_temp.native rights)) first alive.core in
    read_fault x first (record { data_type = data_type; count = count })

-- The first fault decides: a stale handle, a channel that is not live, a type over 20, a missing
-- right, a count over the channel's. A count of 0 is none.
abbrev pub ReadFaults : Type 0
ReadFaults =
    (read_fault alive.core second one_long ≡ Some refusal.StaleHandle)
    × (read_fault greeted first one_long ≡ Some refusal.NotLive)
    × (refused 0 21 2 ≡ Some refusal.BadType) × (refused 2 20 2 ≡ Some refusal.NoAccess)
    × (refused 1 20 2 ≡ Some refusal.BadCount)
    × (refused 3 20 0 ≡ None)

-- and of a write: the right, and the count, which may not be 0
abbrev pub WriteFaults : Type 0
WriteFaults =
    let unwritable : Client =
    with_standing (On first (phase.Live live_temp.native 1)) first alive.core in
    (put_fault unwritable false first (longs []) ≡ Some refusal.NoAccess)
    × (put_fault alive.core false first (longs []) ≡ Some refusal.BadCount)
    × (put_fault alive.core false first (longs (pos 1 ∷ pos 2 ∷ [])) ≡ Some refusal.BadCount)
    × (put_fault alive.core false first (longs (pos 42 ∷ [])) ≡ None)

-- three reads, of which the first is over; the third has its index
abbrev pub three_reads : Client
three_reads =
    let two : Client = issued first live_temp request.Put second reading in
    issued first live_temp request.Put again (without_request first two)

-- Requests complete in order of issue, and not of index.
abbrev pub InOrderOfIssue : Type 0
InOrderOfIssue =
    disconnections (asks_on first) three_reads
    ≡ notice.Completed second outcome.Disconnected
    ∷ notice.Completed again outcome.Disconnected ∷ []

-- ---- the circuit is cut

abbrev pub lost : Client
lost = ended first reading

-- The request is disconnected, and then TEMP is lost. Nothing is kept of the circuit, and all bytes
-- that waited are left.
abbrev pub CutLoses : Type 0
CutLoses =
    ((closing why.Cut first reading).notices
    ≡ notice.Completed first outcome.Disconnected ∷ notice.Lost first ∷ [])
    × (length (closing why.Cut first reading).left ≡ 104)
    × (channel_state lost first ≡ Ok state.Searching)
    × (held lost.circuits ≡ []) × (held lost.requests ≡ []) × (lost.order ≡ [])

-- It is searched at once.
abbrev pub FoundAgain : Type 0
FoundAgain = due lost ≡ record { cid = 65536; name = temp } ∷ []

-- ---- TEMP is cleared

abbrev pub doomed : Client
doomed = cleared first (On first (phase.Creating 3)) permitted

abbrev pub clears_now : Effect
clears_now = created doomed first created_temp (channel_on doomed first 65536)

-- While it is being created nothing is sent, and its handle is stale. Its CLEAR_CHANNEL goes out at
-- the reply, and its CID is free at the answer to that.
abbrev pub ClearedBeforeLive : Type 0
ClearedBeforeLive =
    (clearing_sent first (On first (phase.Creating 3)) ≡ [])
    × (channel_state doomed first ≡ Err refusal.StaleHandle)
    × (map (λ (s : Sending). s.message) clears_now.sent ≡ clear_request 65536 65536 ∷ [])
    × (clears_now.notices ≡ [])
    × (held (clear_answered clears_now.core first
    (channel_on clears_now.core first 65536)).core.channels ≡ [])

abbrev pub cleared_live : Client
cleared_live = cleared first (On first (phase.Live live_temp.native 3)) reading

-- The IOID of a live channel's request drains until the clear's reply.
abbrev pub ClearedAfterLive : Type 0
ClearedAfterLive =
    (length (held cleared_live.requests) ≡ 1)
    × (let answered : Client =
    (clear_answered cleared_live first (channel_on cleared_live first 65536)).core in
    (held answered.requests ≡ []) × (held answered.channels ≡ []) × (answered.searches ≡ []))

-- ---- its record is removed

abbrev pub leaving : Effect
leaving = left reading first (channel_on reading first 65536)

-- SERVER_DISCONN: the request is disconnected, TEMP is lost, and its CLEAR_CHANNEL goes out.
abbrev pub DisconnectLeaves : Type 0
DisconnectLeaves =
    (leaving.notices ≡ notice.Completed first outcome.Disconnected ∷ notice.Lost first ∷ [])
    × (map (λ (s : Sending). s.message) leaving.sent ≡ clear_request 65536 65536 ∷ [])
    × (channel_state leaving.core first ≡ Ok state.Leaving)

-- The reply to the read, when it comes, is about a request that is over.
abbrev pub LateReplyFrees : Type 0
LateReplyFrees =
    option_map (λ (e : Handle × request.Request). e.1.stage)
    (answered_by first 15 65536 leaving.core.requests) ≡ Some request.Draining

-- Once the clear is answered it is searched again, under the same CID.
abbrev pub LeftIsSearchedAgain : Type 0
LeftIsSearchedAgain =
    let searched : Client =
    (clear_answered leaving.core first (channel_on leaving.core first 65536)).core in
    (channel_state searched first ≡ Ok state.Searching)
    × (due searched ≡ record { cid = 65536; name = temp } ∷ [])

-- ---- subscriptions

abbrev pub to_temp : Subscription
to_temp = new_subscription first one_long 1

-- subscribed to
abbrev pub subscribed : Client
subscribed =
    sending (event_add_sent first 65536 first to_temp ∷ [])
    (record alive.core { subscriptions = with_held first to_temp alive.core.subscriptions })

-- and cancelled, while updates are in flight
abbrev pub cancelled : Client
cancelled = unsubscribed first (Some (On first (phase.Live live_temp.native 3))) subscribed

-- the confirmation was read
abbrev pub confirmed_now : Client
confirmed_now = (confirmed cancelled (confirmed_by first 65536 cancelled.subscriptions)).core

-- The first id is 00010000. While it drains its index is taken, and the next is 00010001; then it
-- may be given again, as 00020000.
abbrev pub IdsOfSubscriptions : Type 0
IdsOfSubscriptions =
    (wire_of first ≡ 65536) × ((place_at cancelled.subscriptions 0).value ≡ None → ⊥)
    × (wire_of second ≡ 65537)
    × ((place_at confirmed_now.subscriptions 0).value ≡ None) × (wire_of again ≡ 131072)

-- An update of it goes to nobody; while it stood, it went to it.
abbrev pub UpdateToNobody : Type 0
UpdateToNobody =
    (subscription_on subscribed first 65536 ≡ Some first)
    × (subscription_on cancelled first 65536 ≡ None)

-- The confirmation is about it once, and never about one that was not cancelled.
abbrev pub ConfirmationFrees : Type 0
ConfirmationFrees =
    (confirmed_by first 65536 subscribed.subscriptions ≡ None)
    × (confirmed_by first 65536 cancelled.subscriptions ≡ Some first)
    × (confirmed_by first 65536 confirmed_now.subscriptions ≡ None)

-- an update of it, of LONG 22
abbrev pub late_update : Fields
late_update = update 5 1 1 65536 (0 ∷ 0 ∷ 0 ∷ 22 ∷ [])

-- It is skipped once the subscription is cancelled, and nothing else can happen.
abbrev pub OnlySkipped : Type 0
OnlySkipped =
    Hears cancelled first late_update (becomes cancelled)
    × ((e : Effect) → Hears cancelled first late_update e → e ≡ becomes cancelled)

-- ---- reads in a row

-- after n reads that left bytes
abbrev pub after : ℕ → ReadRun
after zero = no_reads
after (suc n) = after_read true (after n)

abbrev pub NoPauseAtNine : Type 0
NoPauseAtNine = (sent_by_read true (after 8) ≡ None) × (sent_by_read false (after 9) ≡ None)

-- The tenth asks for a pause. No other read asks for one more, and the next that leaves none asks
-- for the end of it.
abbrev pub PauseAtTen : Type 0
PauseAtTen =
    (sent_by_read true (after 9) ≡ Some command.EventsOff) × (sent_by_read true (after 10) ≡ None)
    × (sent_by_read false (after 12) ≡ Some command.EventsOn)
    × (after_read false (after 12) ≡ no_reads)

-- ---- searches

-- `0000 0000 0000 000D 00000000 00000000 0006 0008 0005 000D 00010000 00010000 54454D50 00000000`
abbrev pub OneSearch : Type 0
OneSearch =
    packed [] (record { cid = 65536; name = temp } ∷ [])
    ≡ (0 ∷ 0 ∷ 0 ∷ 0 ∷ 0 ∷ 0 ∷ 0 ∷ 13 ∷ 0 ∷ 0 ∷ 0 ∷ 0 ∷ 0 ∷ 0 ∷ 0 ∷ 0 ∷ 0 ∷ 6 ∷ 0 ∷ 8 ∷ 0 ∷ 5 ∷ 0
    ∷ 13 ∷ 0 ∷ 1 ∷ 0 ∷ 0 ∷ 0 ∷ 1 ∷ 0 ∷ 0 ∷ 84 ∷ 69 ∷ 77 ∷ 80 ∷ 0 ∷ 0 ∷ 0 ∷ 0 ∷ []) ∷ []

-- the lengths of the datagrams of searches for names of these lengths
abbrev pub sizes : List ℕ → List ℕ
sizes lengths =
    map length (packed [] (map (λ (n : ℕ). record { cid = 65536; name = replicate n 65 }) lengths))

abbrev pub FullDatagrams : Type 0
FullDatagrams = (sizes (500 ∷ 471 ∷ []) ≡ 1024 ∷ []) × (sizes (500 ∷ 472 ∷ []) ≡ 536 ∷ 512 ∷ [])

-- ---- name servers

-- a client with a name server, twice in its list; its circuit is connected
abbrev pub named : Client
named = anna (home ∷ home ∷ [])

abbrev pub named_on : Client
named_on = sending (set_up named.peer first (new_circuit home 0 true)) (begun first named)

-- Its circuit is wanted once, from the start, and again after its loss.
abbrev pub NameIsWanted : Type 0
NameIsWanted =
    (wanted named ≡ record { circuit = first; address = home; priority = 0 } ∷ [])
    × (length (out_bytes named_on first) ≡ 64)
    × (wanted named_on ≡ [])
    × (wanted (ended first named_on)
    ≡ record { circuit = first; address = home; priority = 0 } ∷ [])

-- A tick searches for TEMP there and by a datagram. It is due again after 32 milliseconds, and not
-- before.
abbrev pub SearchesOnName : Type 0
SearchesOnName =
    let before : Ticking =
    circuits_ticked 0 (with_temp named_on) in let after_all : Ticking = searches_made before in
    (map (λ (s : Sending). s.message) after_all.sent ≡ search_request 65536 temp ∷ [])
    × (length (ticked before).datagrams ≡ 1)
    × (length (out_bytes after_all.core first) ≡ 88)
    × (due (circuits_ticked 31 after_all.core).core ≡ [])
    × (length (due (circuits_ticked 32 after_all.core).core) ≡ 1)

-- ---- beacons

-- a beacon of this number
abbrev pub beacon : ℕ → Fields
beacon number = record (header_only command.RsrvIsUp) { data_type = 13; count = 5064; p1 = number }

-- a client that searched for TEMP at 0, at the moment 10
abbrev pub searching : Client
searching = (circuits_ticked 10 (searches_made (circuits_ticked 0 (with_temp (anna [])))).core).core

-- The first beacon of a server is an anomaly: all searches are due at once.
abbrev pub BeaconBoosts : Type 0
BeaconBoosts = (due searching ≡ []) × (length (due (beacon_heard home (beacon 5) searching)) ≡ 1)

-- ---- silence

-- An ECHO at 30,000, none more at 34,999, and at 35,000 the end; at once by a first tick then.
abbrev pub EchoThenClose : Type 0
EchoThenClose =
    let echoed : Ticking =
    circuits_ticked 30000 named_on in let silent : Ticking = circuits_ticked 35000 echoed.core in
    ((circuits_ticked 29999 named_on).sent ≡ [])
    × (map (λ (s : Sending). s.message) echoed.sent ≡ header_only command.Echo ∷ [])
    × ((circuits_ticked 34999 echoed.core).sent ≡ []) × (length silent.closings ≡ 1)
    × (wanted silent.core ≡ wanted named)
    × (length (circuits_ticked 35000 named_on).closings ≡ 1)
    × ((circuits_ticked 35000 named_on).sent ≡ [])
