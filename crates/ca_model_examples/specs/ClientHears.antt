-- Vocabulary's examples: what a client makes of messages, and of calls in each state of a channel,
-- by what its definitions compute.
use Rattle.std.specs.Prelude.{ℕ, ◌≡◌, true, false, nat_le, length, map, List, [], ◌∷◌, Option, Some}
use Rattle.std.specs.Prelude.{None, Ok}
use Rattle.ca_arena.specs.declared.handle.Handle.{Handle}
use Rattle.ca_dbr.specs.declared.value.Outcome.TheVariants as outcome
use Rattle.ca_dbr.specs.Elements.{longs}
use Rattle.ca_ids.specs.Table.{IsFull, Table, held, with_held}
use Rattle.ca_monitor.specs.Subscriptions.{Subscription, confirmed_by}
use Rattle.ca_monitor.specs.Subscriptions as monitor
use Rattle.ca_requests.specs.Requests.{Request, answered_by}
use Rattle.ca_requests.specs.Requests as request
use Rattle.ca_text.specs.declared.command.Command.TheVariants as command
use Rattle.ca_text.specs.declared.refusal.Refusal.TheVariants as refusal
use Rattle.ca_text.specs.Limits.{output_limit}
use Rattle.ca_wire.specs.declared.header.Header.{Header}
use Rattle.ca_wire.specs.Fields.{Fields}
use Rattle.ca_wire.specs.Messages.{header_only, create_request, event_add_request}
use Rattle.ca_wire.specs.Messages.{event_cancel_request}
use Rattle.ca_link.specs.Link.{new_link}
use Rattle.ca_model.specs.Answers.{Notice, Sending}
use Rattle.ca_model.specs.Answers as notice
use Rattle.ca_model.specs.ChannelState.{channel_state}
use Rattle.ca_model.specs.ChannelState as state
use Rattle.ca_model.specs.Client.{Client, ClientCircuit, On, Phase, Searching, Standing, channel_on}
use Rattle.ca_model.specs.Client.{new_circuit, with_standing}
use Rattle.ca_model.specs.Client as phase
use Rattle.ca_model.specs.ClientCalls.{ask_fault, cancel_sent, cleared, put_fault, unsubscribed}
use Rattle.ca_model.specs.ClientEnds.{due, flow_sent, new_connection}
use Rattle.ca_model.specs.Hears.{Effect, Hears, PutsOn, becomes, clear_answered, created, failed}
use Rattle.ca_model.specs.Hears.{failing, found_at, left, put_on, rights_told}
use Rattle.ca_model_examples.specs.ClientRows.{alive, anna, cancelled, created_temp, doomed, first}
use Rattle.ca_model_examples.specs.ClientRows.{found, greeted, home, leaving, live_temp, named}
use Rattle.ca_model_examples.specs.ClientRows.{named_on, one_long, permitted, reading, second}
use Rattle.ca_model_examples.specs.ClientRows.{subscribed, temp, temp_channel, to_temp, with_temp}
use Rattle.ca_model_examples.specs.ClientEndEvents.{with_output}

-- ---- channels

-- CREATE_CH_FAIL: TEMP is searched at once; one that was cleared meanwhile is gone. A live channel
-- does not fail.
abbrev pub CreationFails : Type 0
CreationFails =
    (let x : Client = (failed permitted (channel_on permitted first 65536)).core in
    (channel_state x first ≡ Ok state.Searching)
    × (due x ≡ record { cid = 65536; name = temp } ∷ []))
    × (held (failed doomed (channel_on doomed first 65536)).core.channels ≡ [])
    × (failed alive.core (channel_on alive.core first 65536) ≡ becomes alive.core)

-- ACCESS_RIGHTS of a live channel are its rights from then on, and CLEAR_CHANNEL, SERVER_DISCONN
-- and CREATE_CHAN out of turn do nothing; nor do messages of another circuit, or of no channel.
abbrev pub OutOfTurn : Type 0
OutOfTurn =
    (channel_state
    (rights_told alive.core first (record (header_only command.AccessRights) { p1 = 65536; p2 = 1 })
    (channel_on alive.core first 65536)).core
    first
    ≡ Ok (state.Live 5 1 1))
    × (clear_answered alive.core first (channel_on alive.core first 65536) ≡ becomes alive.core)
    × (left permitted first (channel_on permitted first 65536) ≡ becomes permitted)
    × (created alive.core first created_temp (channel_on alive.core first 65536)
    ≡ becomes alive.core)
    × (channel_on alive.core second 65536 ≡ None) × (channel_on alive.core first 65537 ≡ None)

-- A channel is found where its search reply says, or where that came from; it is created at once on
-- a circuit that is connected.
abbrev pub Found : Type 0
Found =
    (found_at (record { host = 9; port = 7 })
    (record (header_only command.Search) { data_type = 5064; p1 = 0xFFFFFFFF })
    ≡ record { host = 9; port = 5064 })
    × (found_at (record { host = 9; port = 7 })
    (record (header_only command.Search) { data_type = 5064; p1 = 8 })
    ≡ record { host = 8; port = 5064 })
    × (let e : Effect = put_on first (Some (new_connection 0)) first temp_channel
    (with_temp named_on) in
    (map (λ (s : Sending). s.message) e.sent ≡ create_request 65536 temp ∷ [])
    × (channel_state e.core first ≡ Ok state.Creating) × (due e.core ≡ []))

-- If no circuit can be had nothing happens.
abbrev pub NoneFree : Type 0
NoneFree =
    (t : Table ClientCircuit) → IsFull t
    → (let x : Client = record
    (with_temp (anna [])) { circuits = t } in PutsOn x home first temp_channel None (becomes x))

-- A channel that waited for its circuit is cleared: nothing is sent, its CID is free, and the
-- circuit is not wanted any more, unless it is a name server's.
abbrev pub ClearedWhileWaiting : Type 0
ClearedWhileWaiting =
    let x : Client = cleared first (On first phase.Connecting) found in
    let y : Client =
    cleared first (On first phase.Connecting)
    (with_standing (On first phase.Connecting) first (with_temp named)) in
    (held x.channels ≡ []) × (x.searches ≡ []) × (held x.circuits ≡ []) × (x.order ≡ [])
    × (held y.channels ≡ []) × (y.order ≡ first ∷ [])

-- ---- replies by id

-- A reply is about the request of its IOID, circuit and command.
abbrev pub RepliesByCommand : Type 0
RepliesByCommand =
    (answered_by first 19 65536 reading.requests ≡ None)
    × (answered_by second 15 65536 reading.requests ≡ None)
    × (answered_by first 15 65537 reading.requests ≡ None)
    × (answered_by first 15 65536 reading.requests ≡ Some (
      first,
      record { channel = first; circuit = first; asked = request.Read 5 1; stage = request.Open },
    ))

-- a confirmation counts on the circuit of its cancel
abbrev pub ConfirmedThere : Type 0
ConfirmedThere =
    (confirmed_by second 65536 cancelled.subscriptions ≡ None)
    × (confirmed_by first 65537 cancelled.subscriptions ≡ None)

-- NOT_FOUND, and any other command that a client does not understand, is skipped.
abbrev pub Skipped : Type 0
Skipped =
    Hears alive.core first (header_only command.NotFound) (becomes alive.core)
    × Hears alive.core first (header_only command.Echo) (becomes alive.core)

-- ---- ERROR

-- an ERROR about TEMP, with the status 160, and the header of a request that failed
abbrev pub error : Fields
error = record (header_only command.Error) { p1 = 65536; p2 = 160 }

abbrev pub failed_header : (number : ℕ) → Header
failed_header number =
    record { command = number; data_type = 5; size = 0; count = 1; p1 = 65536; p2 = 65536 }

-- A write that failed is told of its channel; a subscription that failed is over, and its id free,
-- unless it was cancelled; so is a request, and an IOID that drains goes on draining.
abbrev pub Errors : Type 0
Errors =
    ((failing alive.core first error (failed_header 4)).notices ≡ notice.WriteRefused first
    (record { number = 160 }) ∷ [])
    × (failing permitted first error (failed_header 4) ≡ becomes permitted)
    × (let e : Effect = failing subscribed first error (failed_header 1) in
    (e.notices ≡ notice.SubscriptionEnded first (record { number = 160 }) ∷ [])
    × (held e.core.subscriptions ≡ []))
    × (failing cancelled first error (failed_header 1) ≡ becomes cancelled)
    × (let e : Effect = failing reading first error (failed_header 15) in
    (e.notices ≡ notice.Completed first (outcome.Failed (record { number = 160 })) ∷ [])
    × (held e.core.requests ≡ []) × (e.core.issued ≡ []))
    × (failing leaving.core first error (failed_header 15) ≡ becomes leaving.core)
    × (failing reading first error (failed_header 19) ≡ becomes reading)

-- ---- subscriptions

-- two subscriptions to TEMP, of which the first was cancelled, before it is live again
abbrev pub resubscribing : Client
resubscribing =
    record permitted { subscriptions = with_held second to_temp cancelled.subscriptions }

-- the subscriptions that stand go out when it is live
abbrev pub SubscribedAgain : Type 0
SubscribedAgain =
    let e : Effect =
    created resubscribing first created_temp (channel_on resubscribing first 65536) in
    (map (λ (s : Sending). s.message) e.sent ≡ event_add_request
    (record { sid = 65536; id = 65537; data_type = 5; count = 1 }) 1 ∷ [])
    × (e.notices ≡ notice.Live first ∷ [])

-- the stage of the subscription after it is ended on a channel that is so
abbrev pub stages : Option Standing → List monitor.Stage
stages s =
    map (λ (e : Handle × Subscription). e.1.stage)
    (held (unsubscribed first s subscribed).subscriptions)

-- Its id drains until the confirmation, or on a channel that its record left until the clear's
-- reply; else it is free. Only on a live channel an EVENT_CANCEL goes out.
abbrev pub Unsubscribes : Type 0
Unsubscribes =
    (stages (Some (On second (phase.Live live_temp.native 3))) ≡ monitor.Cancelled second ∷ [])
    × (stages (Some (On second phase.Leaving)) ≡ monitor.Ended second ∷ [])
    × (stages (Some (On second (phase.Creating 0))) ≡ [])
    × (stages (Some (On second phase.Connecting)) ≡ []) × (stages (Some Searching) ≡ [])
    × (map (λ (s : Sending). s.message)
    (cancel_sent first to_temp (Some (On second (phase.Live live_temp.native 3))))
    ≡ event_cancel_request (record { sid = 65536; id = 65536; data_type = 5; count = 1 }) ∷ [])
    × (cancel_sent first to_temp (Some (On second phase.Leaving)) ≡ [])
    × (cancel_sent first to_temp (Some Searching) ≡ [])

-- ---- refusals, and flow control

-- too much that waits comes before a full table, and both come after the other faults
abbrev pub LastFaults : Type 0
LastFaults =
    (ask_fault alive.core true first one_long ≡ Some refusal.ArenaFull)
    × (ask_fault alive.core true first (record { data_type = 5; count = 2 })
    ≡ Some refusal.BadCount)
    × ((bytes : List ℕ) → nat_le output_limit (length bytes) ≡ true
    → ask_fault (with_output bytes alive.core) true first one_long ≡ Some refusal.OutputFull)
    × (put_fault alive.core true second (longs []) ≡ Some refusal.StaleHandle)
    × (put_fault greeted true first (longs []) ≡ Some refusal.NotLive)

-- the tenth read in a row sends EVENTS_OFF on its circuit
abbrev pub PauseIsSent : Type 0
PauseIsSent =
    (flow_sent second true
    (record { link = new_link 0; run = record { reads = 9; events_off = false } })
    ≡ record {
      circuit = second;
      message = header_only command.EventsOff;
      aim = notice.OfCircuit;
    } ∷ [])
    × (flow_sent second false
    (record { link = new_link 0; run = record { reads = 0; events_off = true } })
    ≡ record {
      circuit = second;
      message = header_only command.EventsOn;
      aim = notice.OfCircuit;
    } ∷ [])
