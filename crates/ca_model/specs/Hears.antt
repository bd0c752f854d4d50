-- Vocabulary: what a client makes of a message that it reads on a circuit (section "CA
-- Protocol Messages").
use Rattle.std.specs.Prelude.{ℕ, ◌≡◌, ◌≢◌, ◌-◌, ◌^◌, ◌==◌, ◌++◌, ◌⊎◌, Bool, true, false, List, []}
use Rattle.std.specs.Prelude.{◌∷◌, Option, Some, None, if◌then◌else◌, map, option_and_then}
use Rattle.std.specs.Prelude.{option_map, unwrap_or}
use Rattle.std.specs.List.{list_any}
use Rattle.ca_text.specs.Command.{command_number}
use Rattle.ca_text.specs.declared.command.Command.{Command}
use Rattle.ca_text.specs.declared.command.Command.TheVariants as command
use Rattle.ca_dbr.specs.declared.value.Outcome.{Outcome}
use Rattle.ca_dbr.specs.declared.value.Outcome.TheVariants as outcome
use Rattle.ca_arena.specs.declared.handle.Handle.{Handle}
use Rattle.ca_ids.specs.Table.{IsFull, MayGive, by_wire, under, with_freed, with_held}
use Rattle.ca_ids.specs.Wire.{wire_of}
use Rattle.ca_wire.specs.declared.header.Header.{Header}
use Rattle.ca_wire.specs.Fields.{Fields}
use Rattle.ca_wire.specs.Messages.{create_request}
use Rattle.ca_requests.specs.Meaning.{Means, MeansTo, QuotesHeader}
use Rattle.ca_requests.specs.Requests.{Asked, Request, Stage, answered_by, asks_on}
use Rattle.ca_requests.specs.Requests as request
use Rattle.ca_monitor.specs.Subscriptions.{Subscription, confirmed_by, standing_by, standing_to}
use Rattle.ca_monitor.specs.Subscriptions as monitor
use Rattle.ca_model.specs.Ends.{Address}
use Rattle.ca_model.specs.Speech.{Is}
use Rattle.ca_model.specs.Answers.{Notice, Sending}
use Rattle.ca_model.specs.Answers as notice
use Rattle.ca_model.specs.Client.{Channel, Client, ClientCircuit, Connection, Native, On, Phase}
use Rattle.ca_model.specs.Client.{Searching, Standing, channel_on, circuit_to, disconnections}
use Rattle.ca_model.specs.Client.{found_on, is_live, is_on_in, new_circuit, phase_on}
use Rattle.ca_model.specs.Client.{searched_again, sending, with_standing, without_channel}
use Rattle.ca_model.specs.Client.{with_requests}
use Rattle.ca_model.specs.Client as phase
use Rattle.ca_model.specs.ClientCalls.{clear_sent, event_add_sent}

-- what a message does: the client after it, what that sent, and its notices
pub record Effect : Type 0 where
  pub core : Client
  pub sent : List Sending
  pub notices : List Notice

-- it sends these messages, with these notices, and the client is this one, with the messages
-- waiting on their circuits
abbrev pub doing : List Sending → List Notice → Client → Effect
doing sent notices x = record { core = sending sent x; sent = sent; notices = notices }

-- it only makes the client this one
abbrev pub becomes : Client → Effect
becomes x = doing [] [] x

-- ---- search replies

-- where the server of a search reply is: at the address in it, or where the reply came
-- from ("CA_PROTO_SEARCH")
abbrev pub found_at : Address → Fields → Address
found_at from m =
    record { host = if m.p1 == 2 ^ 32 - 1 then from.host else m.p1; port = m.data_type }

-- the channel is searched for
abbrev pub is_searched : Standing → Bool
is_searched Searching = true
is_searched (On c p) = false

-- the channel of this CID, if it is searched for
abbrev pub searched_by : ℕ → Client → Option (Handle × Channel)
searched_by cid x =
    option_and_then (λ (e : Handle × Channel). if is_searched e.1.standing then Some e else None)
    (by_wire x.channels cid)

-- the CREATE_CHAN of a channel, on this circuit ("CA_PROTO_CREATE_CHAN")
abbrev pub create_sent : Handle → Handle → Channel → Sending
create_sent c h here =
    record { circuit = c; message = create_request (wire_of h) here.name; aim = notice.Create h }

-- A channel that was found is created on its circuit at once if that is connected;
-- else it waits for that.
abbrev pub put_on : Handle → Option Connection → Handle → Channel → Client → Effect
put_on c (Some e) h here x =
    doing (create_sent c h here ∷ []) [] (found_on c (phase.Creating 0) h x)
put_on c None h here x = becomes (found_on c phase.Connecting h x)

-- the client that wants this circuit too, after the others
abbrev pub with_circuit : Handle → ClientCircuit → Client → Client
with_circuit c d x = record x { circuits = with_held c d x.circuits; order = x.order ++ c ∷ [] }

-- The circuit on which a channel was found is there, or is wanted from now on. If no more circuits
-- can be had, nothing happens.
abbrev pub PutsOn : Client → Address → Handle → Channel → Option (Handle × ClientCircuit) → Effect
    → Type 0
PutsOn x a h here (Some (c, d)) e = e ≡ put_on c d.connection h here x
PutsOn x a h here None e =
    ((c : Handle) × MayGive x.circuits c
    × (e ≡ put_on c None h here (with_circuit c (new_circuit a here.priority false) x)))
    ⊎ (IsFull x.circuits × (e ≡ becomes x))

-- a channel was found at this address; of a channel that is not searched for nothing happens
abbrev pub FindsAt : Client → Address → Option (Handle × Channel) → Effect → Type 0
FindsAt x a None e = e ≡ becomes x
FindsAt x a (Some (h, here)) e = PutsOn x a h here (circuit_to a here.priority x) e

-- Every SEARCH that comes is a reply: this one came from that address.
abbrev pub Finds : Client → Address → Fields → Effect → Type 0
Finds x from m e = FindsAt x (found_at from m) (searched_by m.p2 x) e

-- ---- channels, each by its CID and how far it is on the circuit

-- ACCESS_RIGHTS ("CA_PROTO_ACCESS_RIGHTS")
abbrev pub rights_told : Client → Handle → Fields → Option (Handle × Phase) → Effect
rights_told x c m (Some (h, phase.Creating rights)) =
    becomes (with_standing (On c (phase.Creating m.p2)) h x)
rights_told x c m (Some (h, phase.Live n rights)) =
    becomes (with_standing (On c (phase.Live n m.p2)) h x)
rights_told x c m there = becomes x

-- the EVENT_ADDs of a channel's subscriptions, in order of index
abbrev pub event_adds : Handle → ℕ → Handle → Client → List Sending
event_adds c sid h x =
    map (λ (e : Handle × Subscription). event_add_sent c sid e.0 e.1)
    (standing_to h x.subscriptions)

-- what a CREATE_CHAN says of its channel
abbrev pub native_in : Fields → Native
native_in m = record { sid = m.p2; data_type = m.data_type; count = m.count }

-- CREATE_CHAN: the channel is live, and is subscribed to again under the same ids; one that its
-- caller cleared meanwhile is cleared now ("CA_PROTO_CREATE_CHAN")
abbrev pub created : Client → Handle → Fields → Option (Handle × Phase) → Effect
created x c m (Some (h, phase.Creating rights)) =
    doing (event_adds c m.p2 h x) (notice.Live h ∷ [])
    (with_standing (On c (phase.Live (native_in m) rights)) h x)
created x c m (Some (h, phase.Doomed)) =
    doing (clear_sent c m.p2 h ∷ []) [] (with_standing (On c phase.Clearing) h x)
created x c m there = becomes x

-- CREATE_CH_FAIL: the channel is searched for again; one that its caller cleared meanwhile is gone
-- ("CA_PROTO_CREATE_CH_FAIL")
abbrev pub failed : Client → Option (Handle × Phase) → Effect
failed x (Some (h, phase.Creating rights)) = becomes (searched_again x h)
failed x (Some (h, phase.Doomed)) = becomes (without_channel x h)
failed x there = becomes x

-- the ids of a channel whose clear is answered no longer drain
abbrev pub without_drained : Handle → Handle → Client → Client
without_drained c h x =
    with_requests (request.channel_gone h x.requests)
    (record x { subscriptions = monitor.channel_drained c h x.subscriptions })

-- CLEAR_CHANNEL: a channel that its caller cleared is gone; one that its record left is searched
-- for again ("CA_PROTO_CLEAR_CHANNEL")
abbrev pub clear_answered : Client → Handle → Option (Handle × Phase) → Effect
clear_answered x c (Some (h, phase.Clearing)) = becomes (without_channel (without_drained c h x) h)
clear_answered x c (Some (h, phase.Leaving)) = becomes (searched_again (without_drained c h x) h)
clear_answered x c there = becomes x

-- SERVER_DISCONN: a live channel's requests complete with Disconnected, in order of issue; it is
-- lost, and cleared ("CA_PROTO_SERVER_DISCONN")
abbrev pub left : Client → Handle → Option (Handle × Phase) → Effect
left x c (Some (h, phase.Live n rights)) =
    doing
    (clear_sent c n.sid h ∷ [])
    (disconnections (asks_on h) x ++ notice.Lost h ∷ [])
    (with_standing (On c phase.Leaving) h (with_requests (request.channel_over h x.requests) x))
left x c there = becomes x

-- ---- requests and subscriptions, each by its id

-- nothing has the IOID of this request
abbrev pub without_request : Handle → Client → Client
without_request q x = with_requests (with_freed q x.requests) x

-- nothing has the id of this subscription
abbrev pub without_subscription : Handle → Client → Client
without_subscription s x = record x { subscriptions = with_freed s x.subscriptions }

-- A reply completes an open request with the outcome that it means, and ends the
-- draining of an IOID.
abbrev pub Completes : Client → Fields → Handle → Asked → Stage → Effect → Type 0
Completes x m q asked request.Open e =
    (o : Outcome) × MeansTo asked m o
    × (e ≡ doing [] (notice.Completed q o ∷ []) (without_request q x))
Completes x m q asked request.Draining e = e ≡ becomes (without_request q x)

-- READ_NOTIFY and WRITE_NOTIFY ("CA_PROTO_READ_NOTIFY", "CA_PROTO_WRITE_NOTIFY")
abbrev pub Answers : Client → Fields → Option (Handle × Request) → Effect → Type 0
Answers x m (Some (q, r)) e = Completes x m q r.asked r.stage e
Answers x m None e = e ≡ becomes x

-- An EVENT_ADD without payload confirms a cancel ("CA_PROTO_EVENT_CANCEL").
abbrev pub confirmed : Client → Option Handle → Effect
confirmed x (Some s) = becomes (without_subscription s x)
confirmed x None = becomes x

-- the channel of this handle is live on this circuit
abbrev pub is_live_on : Client → Handle → Handle → Bool
is_live_on x c h = unwrap_or (option_map (is_on_in is_live c) (under x.channels h)) false

-- the subscription of this id, if it stands and its channel is live on this circuit
abbrev pub subscription_on : Client → Handle → ℕ → Option Handle
subscription_on x c id =
    option_and_then
    (λ (e : Handle × Subscription). if is_live_on x c e.1.channel then Some e.0 else None)
    (standing_by id x.subscriptions)

-- Any other EVENT_ADD is an update ("CA_PROTO_EVENT_ADD").
abbrev pub Updates : Client → Fields → Option Handle → Effect → Type 0
Updates x m (Some s) e = (o : Outcome) × Means m o × (e ≡ doing [] (notice.Update s o ∷ []) x)
Updates x m None e = e ≡ becomes x

-- ---- ERROR

-- a plain write on a live channel failed
abbrev pub write_failed : Client → Fields → Option (Handle × Phase) → Effect
write_failed x m (Some (h, phase.Live n rights)) =
    doing [] (notice.WriteRefused h (record { number = m.p2 }) ∷ []) x
write_failed x m there = becomes x

-- a subscription failed: it is over, and its id is free
abbrev pub subscription_failed : Client → Fields → Option Handle → Effect
subscription_failed x m (Some s) =
    doing [] (notice.SubscriptionEnded s (record { number = m.p2 }) ∷ []) (without_subscription s x)
subscription_failed x m None = becomes x

-- A request failed; an IOID that drains goes on draining.
abbrev pub request_failed : Client → Fields → Handle → Stage → Effect
request_failed x m q request.Open =
    doing [] (notice.Completed q (outcome.Failed (record { number = m.p2 })) ∷ [])
    (without_request q x)
request_failed x m q request.Draining = becomes x

-- the read or put with notification, if there is one
abbrev pub any_failed : Client → Fields → Option (Handle × Request) → Effect
any_failed x m (Some (q, r)) = request_failed x m q r.stage
any_failed x m None = becomes x

-- the request with this header failed: a WRITE by the ERROR's CID, an EVENT_ADD, or a request
-- with an answer by its id
abbrev pub failing : Client → Handle → Fields → Header → Effect
failing x c m h =
    if h.command == command_number command.Write
    then write_failed x m (channel_on x c m.p1)
    else if h.command == command_number command.EventAdd
    then subscription_failed x m (subscription_on x c h.p2)
    else any_failed x m (answered_by c h.command h.p2 x.requests)

-- An ERROR quotes the header of the request that failed. If that is not complete the ERROR is
-- skipped ("CA_PROTO_ERROR").
abbrev pub Fails : Client → Handle → Fields → Effect → Type 0
Fails x c m e =
    ((h : Header) × QuotesHeader m h × (e ≡ failing x c m h))
    ⊎ (((h : Header) → QuotesHeader m h → ⊥) × (e ≡ becomes x))

-- ---- all messages

-- the commands that a client understands on a circuit
abbrev pub understood : List Command
understood =
    command.Search ∷ command.AccessRights ∷ command.CreateChannel ∷ command.CreateChannelFail
    ∷ command.ClearChannel
    ∷ command.ServerDisconnect ∷ command.ReadNotify ∷ command.WriteNotify ∷ command.EventAdd
    ∷ command.Error ∷ []

-- A message that was read on this circuit has this effect. One of another command is skipped, and
-- so is one that is about nothing here.
pub data Hears (x : Client) (c : Handle) (m : Fields) (e : Effect) : Type 0 where
  Search : Is command.Search m → (d : ClientCircuit) → under x.circuits c ≡ Some d
      → Finds x d.address m e → Hears x c m e
  AccessRights : Is command.AccessRights m → e ≡ rights_told x c m (channel_on x c m.p1)
      → Hears x c m e
  CreateChannel : Is command.CreateChannel m → e ≡ created x c m (channel_on x c m.p1)
      → Hears x c m e
  CreateChannelFail : Is command.CreateChannelFail m → e ≡ failed x (channel_on x c m.p1)
      → Hears x c m e
  ClearChannel : Is command.ClearChannel m → e ≡ clear_answered x c (channel_on x c m.p2)
      → Hears x c m e
  ServerDisconnect : Is command.ServerDisconnect m → e ≡ left x c (channel_on x c m.p1)
      → Hears x c m e
  Reply : Is command.ReadNotify m ⊎ Is command.WriteNotify m
      → Answers x m (answered_by c m.command m.p2 x.requests) e → Hears x c m e
  Confirmation : Is command.EventAdd m → m.payload ≡ []
      → e ≡ confirmed x (confirmed_by c m.p2 x.subscriptions) → Hears x c m e
  Update : Is command.EventAdd m → m.payload ≢ [] → Updates x m (subscription_on x c m.p2) e
      → Hears x c m e
  Error : Is command.Error m → Fails x c m e → Hears x c m e
  Other : list_any (λ (k : Command). m.command == command_number k) understood ≡ false
      → e ≡ becomes x → Hears x c m e
