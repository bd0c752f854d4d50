-- Vocabulary: what the calls of a client's user answer and leave (section "Overall Client
-- Operation"). Each definition by answer is the contract of the call that its comment names: from
-- old, with this answer, it sent these messages and left new.
use Rattle.std.specs.Prelude.{ℕ, ◌≡◌, ◌<◌, ◌≤◌, ◌==◌, ◌||◌, ◌++◌, Bool, true, false, not, List, []}
use Rattle.std.specs.Prelude.{◌∷◌, Option, Some, None, Result, Ok, Err, find, if◌then◌else◌}
use Rattle.std.specs.Prelude.{filter_map, is_none, length, nat_le, nat_lt, option_and_then}
use Rattle.std.specs.Prelude.{option_map, unwrap_or}
use Rattle.ca_text.specs.declared.command.Command.TheVariants as command
use Rattle.ca_text.specs.declared.refusal.Refusal.{Refusal}
use Rattle.ca_text.specs.declared.refusal.Refusal.TheVariants as refusal
use Rattle.ca_text.specs.Limits.{channel_name_limit, output_limit, payload_limit, priority_limit}
use Rattle.ca_text.specs.Name.{IsName}
use Rattle.ca_dbr.specs.Elements.{Elements, base_of, bytes_of, count_of}
use Rattle.ca_dbr.specs.Types.{base_number}
use Rattle.ca_arena.specs.declared.handle.Handle.{Handle}
use Rattle.ca_ids.specs.Table.{IsFull, MayGive, is_full, under, with_freed, with_held}
use Rattle.ca_ids.specs.Wire.{wire_of}
use Rattle.ca_search.specs.Clock.{fresh}
use Rattle.ca_wire.specs.declared.requests.Wanted.{Wanted}
use Rattle.ca_wire.specs.Messages.{clear_request, event_add_request, event_cancel_request}
use Rattle.ca_wire.specs.Messages.{put_request, read_request}
use Rattle.ca_requests.specs.Calls.{new_request}
use Rattle.ca_requests.specs.Requests.{Asked, Request, asks_on}
use Rattle.ca_requests.specs.Requests as request
use Rattle.ca_monitor.specs.Subscriptions.{Subscription, standing_under, with_stage}
use Rattle.ca_monitor.specs.Subscriptions as monitor
use Rattle.ca_records.specs.Rules.{may_read, may_write}
use Rattle.ca_model.specs.Ends.{Address}
use Rattle.ca_model.specs.Images.{type_of}
use Rattle.ca_model.specs.Answers.{Notice, Sending}
use Rattle.ca_model.specs.Answers as aim
use Rattle.ca_model.specs.Client.{Channel, Client, ClientCircuit, Native, On, Phase, Searching}
use Rattle.ca_model.specs.Client.{Standing, channels_on, disconnections, later, let_go, out_bytes}
use Rattle.ca_model.specs.Client.{sending, standing_at, with_standing, without_channel}
use Rattle.ca_model.specs.Client.{with_requests}
use Rattle.ca_model.specs.Client as phase

-- Nothing was sent, and the client is as before.
abbrev pub IsUnchanged : Client → List Sending → Client → Type 0
IsUnchanged old sent new = (sent ≡ []) × (new ≡ old)

-- These messages were sent: the client is this one, with them waiting on their circuits.
abbrev pub Does : List Sending → Client → List Sending → Client → Type 0
Does sends does sent new = (sent ≡ sends) × (new ≡ sending sends does)

-- ---- open

-- a channel to be opened, and the moment
pub record Opening : Type 0 where
  pub name : List ℕ
  pub priority : ℕ
  pub now : ℕ

-- the name is one, and the priority not too great
abbrev pub MayOpen : Opening → Type 0
MayOpen a = IsName channel_name_limit a.name × (a.priority ≤ priority_limit)

-- the client with this channel, which is searched for from now on
abbrev pub opened : Opening → Handle → Client → Client
opened a h x = record x {
  moment = later a.now x;
  channels =
      with_held h
      (record { name = a.name; priority = a.priority; standing = Searching }) x.channels;
  searches =
      x.searches ++
      (wire_of h, record { name = a.name; clock = Some (fresh (later a.now x)) }) ∷ [];
}

-- `open`. A channel takes memory.
abbrev pub ClientOpens : Client → Opening → Result Handle Refusal → List Sending → Client → Type 0
ClientOpens old a (Ok h) sent new =
    MayOpen a × MayGive old.channels h × Does [] (opened a h old) sent new
ClientOpens old a (Err refusal.NameLength) sent new =
    (IsName channel_name_limit a.name → ⊥) × IsUnchanged old sent new
ClientOpens old a (Err refusal.BadPriority) sent new =
    IsName channel_name_limit a.name × (priority_limit < a.priority) × IsUnchanged old sent new
ClientOpens old a (Err refusal.ArenaFull) sent new =
    MayOpen a × IsFull old.channels × IsUnchanged old sent new
ClientOpens old a (Err refusal.OutOfMemory) sent new =
    MayOpen a × (is_full old.channels ≡ false) × IsUnchanged old sent new
ClientOpens old a (Err _) sent new = ⊥

-- ---- a live channel, and why a call on a channel is refused

-- a channel that is live: on this circuit, and with these access rights
pub record LiveChannel : Type 0 where
  pub circuit : Handle
  pub native : Native
  pub rights : ℕ

-- the channel of this handle is so live
abbrev pub IsLive : Client → Handle → LiveChannel → Type 0
IsLive x h l = standing_at x h ≡ Some (On l.circuit (phase.Live l.native l.rights))

-- the first of these refusals whose test is true
abbrev pub first_refusal : List (Bool × Refusal) → Option Refusal
first_refusal faults =
    option_map (λ (f : Bool × Refusal). f.1) (find (λ (f : Bool × Refusal). f.0) faults)

-- The first fault of a call on a channel: a stale handle, a channel that is not live, or one of
-- those of a live one.
abbrev pub fault_at : (LiveChannel → List (Bool × Refusal)) → Option Standing → Option Refusal
fault_at faults None = Some refusal.StaleHandle
fault_at faults (Some (On c (phase.Live n rights))) =
    first_refusal (faults (record { circuit = c; native = n; rights = rights }))
fault_at faults (Some s) = Some refusal.NotLive

-- as many bytes wait on the circuit as may: no message of a caller is queued after them
abbrev pub is_over : Client → Handle → Bool
is_over x c = nat_le output_limit (length (out_bytes x c))

-- the elements that are asked for: of this type, and this many; a count of 0 asks for
-- those that there are
pub record Shape : Type 0 where
  pub data_type : ℕ
  pub count : ℕ

-- why a read or a subscription is refused, of a type that is bad or not, while the table of its ids
-- is full or not
abbrev pub typed_fault : (bad : Bool) → Client → (full : Bool) → Handle → Shape → Option Refusal
typed_fault bad x full h a =
    fault_at
    (λ (l : LiveChannel). (bad, refusal.BadType)
    ∷ (not (may_read l.rights), refusal.NoAccess)
    ∷ (nat_lt l.native.count a.count, refusal.BadCount)
    ∷ (is_over x l.circuit, refusal.OutputFull)
    ∷ (full, refusal.ArenaFull)
    ∷ [])
    (standing_at x h)

-- why a read or a subscription is refused
abbrev pub ask_fault : Client → (full : Bool) → Handle → Shape → Option Refusal
ask_fault x full h a = typed_fault (is_none (type_of a.data_type)) x full h a

-- a value with no element, with more than its channel takes, or with more bytes than a payload has
abbrev pub is_misfit : Native → Elements → Bool
is_misfit n e =
    count_of e == 0 || (nat_lt n.count (count_of e) || nat_lt payload_limit (length (bytes_of e)))

-- why a write is refused, while the table of its ids, if it takes one, is full or not
abbrev pub put_fault : Client → (full : Bool) → Handle → Elements → Option Refusal
put_fault x full h e =
    fault_at
    (λ (l : LiveChannel). (not (may_write l.rights), refusal.NoAccess)
    ∷ (is_misfit l.native e, refusal.BadCount)
    ∷ (is_over x l.circuit, refusal.OutputFull)
    ∷ (full, refusal.ArenaFull)
    ∷ [])
    (standing_at x h)

-- ---- read, write, write_notify

-- the client with this open request
abbrev pub issued : Handle → LiveChannel → Asked → Handle → Client → Client
issued h l asked q x = record x {
  requests = with_held q (new_request h l.circuit asked) x.requests;
  issued = x.issued ++ q ∷ [];
}

-- the message of a read
abbrev pub read_sent : Handle → LiveChannel → Shape → Handle → Sending
read_sent h l a q = record {
  circuit = l.circuit;
  message =
      read_request
      (record { sid = l.native.sid; id = wire_of q; data_type = a.data_type; count = a.count });
  aim = aim.Read h q;
}

-- why a read is refused
abbrev pub read_fault : Client → Handle → Shape → Option Refusal
read_fault x h a = ask_fault x (is_full x.requests) h a

-- why a read with display data is refused: its type is from 21 to 34
abbrev pub display_fault : Client → Handle → Shape → Option Refusal
display_fault x h a =
    typed_fault (nat_lt a.data_type 21 || nat_lt 34 a.data_type) x (is_full x.requests) h a

-- A read is sent, or is refused for this fault. A request takes memory.
abbrev pub ReadsUnless : Option Refusal → Client → Handle → Shape → Result Handle Refusal
    → List Sending → Client → Type 0
ReadsUnless fault old h a (Ok q) sent new =
    (l : LiveChannel) × IsLive old h l × (fault ≡ None) × MayGive old.requests q
    × Does (read_sent h l a q ∷ []) (issued h l (request.Read a.data_type a.count) q old) sent new
ReadsUnless fault old h a (Err refusal.OutOfMemory) sent new =
    (fault ≡ None) × IsUnchanged old sent new
ReadsUnless fault old h a (Err e) sent new = (fault ≡ Some e) × IsUnchanged old sent new

-- `read`
abbrev pub ClientReads : Client → Handle → Shape → Result Handle Refusal → List Sending → Client
    → Type 0
ClientReads old h a result sent new = ReadsUnless (read_fault old h a) old h a result sent new

-- `read_display`
abbrev pub ClientReadsDisplay : Client → Handle → Shape → Result Handle Refusal → List Sending
    → Client → Type 0
ClientReadsDisplay old h a result sent new =
    ReadsUnless (display_fault old h a) old h a result sent new

-- what a write of these elements names, under this id
abbrev pub wanted_by_put : LiveChannel → Elements → ℕ → Wanted
wanted_by_put l e id =
    record { sid = l.native.sid; id = id; data_type = base_number (base_of e); count = count_of e }

-- the message of a plain write: its IOID is 0
abbrev pub write_sent : Handle → LiveChannel → Elements → Sending
write_sent h l e =
    record {
      circuit = l.circuit;
      message = put_request command.Write (wanted_by_put l e 0) (bytes_of e);
      aim = aim.Write h;
    }

-- `write`. A message takes memory.
abbrev pub ClientWrites : Client → Handle → Elements → Result (Unit {0}) Refusal → List Sending
    → Client → Type 0
ClientWrites old h e (Ok _) sent new =
    (l : LiveChannel) × IsLive old h l × (put_fault old false h e ≡ None)
    × Does (write_sent h l e ∷ []) old sent new
ClientWrites old h e (Err refusal.OutOfMemory) sent new =
    (put_fault old false h e ≡ None) × IsUnchanged old sent new
ClientWrites old h e (Err f) sent new =
    (put_fault old false h e ≡ Some f) × IsUnchanged old sent new

-- the message of a put with notification
abbrev pub put_sent : Handle → LiveChannel → Elements → Handle → Sending
put_sent h l e q =
    record {
      circuit = l.circuit;
      message = put_request command.WriteNotify (wanted_by_put l e (wire_of q)) (bytes_of e);
      aim = aim.Put h q;
    }

-- why a put with notification is refused
abbrev pub notify_fault : Client → Handle → Elements → Option Refusal
notify_fault x h e = put_fault x (is_full x.requests) h e

-- `write_notify`. A request takes memory.
abbrev pub ClientPuts : Client → Handle → Elements → Result Handle Refusal → List Sending → Client
    → Type 0
ClientPuts old h e (Ok q) sent new =
    (l : LiveChannel) × IsLive old h l × (notify_fault old h e ≡ None) × MayGive old.requests q
    × Does (put_sent h l e q ∷ []) (issued h l request.Put q old) sent new
ClientPuts old h e (Err refusal.OutOfMemory) sent new =
    (notify_fault old h e ≡ None) × IsUnchanged old sent new
ClientPuts old h e (Err f) sent new = (notify_fault old h e ≡ Some f) × IsUnchanged old sent new

-- ---- subscribe, unsubscribe

-- what an EVENT_ADD or EVENT_CANCEL of a subscription names, under this SID
abbrev pub wanted_by : ℕ → Handle → Subscription → Wanted
wanted_by sid s d = record { sid = sid; id = wire_of s; data_type = d.data_type; count = d.count }

-- the EVENT_ADD of a subscription, on this circuit and under this SID
abbrev pub event_add_sent : Handle → ℕ → Handle → Subscription → Sending
event_add_sent c sid s d =
    record {
      circuit = c;
      message = event_add_request (wanted_by sid s d) d.mask;
      aim = aim.Subscribe d.channel s;
    }

-- its EVENT_CANCEL
abbrev pub event_cancel_sent : Handle → ℕ → Handle → Subscription → Sending
event_cancel_sent c sid s d =
    record {
      circuit = c;
      message = event_cancel_request (wanted_by sid s d);
      aim = aim.Cancel d.channel s;
    }

-- a subscription to this channel, which stands
abbrev pub new_subscription : Handle → Shape → (mask : ℕ) → Subscription
new_subscription h a mask = monitor.new_subscription h a.data_type a.count mask

-- why a subscription is refused
abbrev pub subscribe_fault : Client → Handle → Shape → Option Refusal
subscribe_fault x h a = ask_fault x (is_full x.subscriptions) h a

-- `subscribe`. A subscription takes memory.
abbrev pub ClientSubscribes : Client → Handle → Shape → (mask : ℕ) → Result Handle Refusal
    → List Sending → Client → Type 0
ClientSubscribes old h a mask (Ok s) sent new =
    (l : LiveChannel) × IsLive old h l × (subscribe_fault old h a ≡ None)
    × MayGive old.subscriptions s
    × (let d : Subscription = new_subscription h a mask in
    Does (event_add_sent l.circuit l.native.sid s d ∷ [])
    (record old { subscriptions = with_held s d old.subscriptions }) sent new)
ClientSubscribes old h a mask (Err refusal.OutOfMemory) sent new =
    (subscribe_fault old h a ≡ None) × IsUnchanged old sent new
ClientSubscribes old h a mask (Err e) sent new =
    (subscribe_fault old h a ≡ Some e) × IsUnchanged old sent new

-- What is sent to end a subscription: its EVENT_CANCEL, on a live channel.
abbrev pub cancel_sent : Handle → Subscription → Option Standing → List Sending
cancel_sent s d (Some (On c (phase.Live n rights))) = event_cancel_sent c n.sid s d ∷ []
cancel_sent s d there = []

-- Its id drains until the confirmation, or, on a channel that its record left, until the clear's
-- reply; else it is free.
abbrev pub unsubscribed : Handle → Option Standing → Client → Client
unsubscribed s (Some (On c (phase.Live n rights))) x =
    record x { subscriptions = with_stage (monitor.Cancelled c) s x.subscriptions }
unsubscribed s (Some (On c phase.Leaving)) x =
    record x { subscriptions = with_stage (monitor.Ended c) s x.subscriptions }
unsubscribed s there x = record x { subscriptions = with_freed s x.subscriptions }

-- a subscription that stands
abbrev pub StandsAs : Client → Handle → Subscription → Type 0
StandsAs x s d = standing_under s x.subscriptions ≡ Some d

-- too much waits for a message on a channel that is there
abbrev pub is_over_at : Client → Option Standing → Bool
is_over_at x (Some (On c (phase.Live n rights))) = is_over x c
is_over_at x there = false

-- why a cancel is refused: a stale handle, or too much that waits for an EVENT_CANCEL
abbrev pub cancel_fault : Client → Option Subscription → Option Refusal
cancel_fault x None = Some refusal.StaleHandle
cancel_fault x (Some d) =
    if is_over_at x (standing_at x d.channel) then Some refusal.OutputFull else None

-- `unsubscribe`. Only an EVENT_CANCEL takes memory.
abbrev pub ClientUnsubscribes : Client → Handle → Result (Unit {0}) Refusal → List Sending → Client
    → Type 0
ClientUnsubscribes old s (Ok _) sent new =
    (d : Subscription) × StandsAs old s d × (cancel_fault old (Some d) ≡ None)
    × Does (cancel_sent s d (standing_at old d.channel))
    (unsubscribed s (standing_at old d.channel) old) sent new
ClientUnsubscribes old s (Err refusal.OutOfMemory) sent new =
    (d : Subscription) × (l : LiveChannel) × StandsAs old s d × (cancel_fault old (Some d) ≡ None)
    × IsLive old d.channel l × IsUnchanged old sent new
ClientUnsubscribes old s (Err e) sent new =
    (cancel_fault old (standing_under s old.subscriptions) ≡ Some e) × IsUnchanged old sent new

-- ---- clear

-- the CLEAR_CHANNEL of a channel on this circuit, under this SID
abbrev pub clear_sent : Handle → ℕ → Handle → Sending
clear_sent c sid h =
    record { circuit = c; message = clear_request sid (wire_of h); aim = aim.Clear h }

-- What is sent to clear a channel: the CLEAR_CHANNEL of a live one.
abbrev pub clearing_sent : Handle → Standing → List Sending
clearing_sent h (On c (phase.Live n rights)) = clear_sent c n.sid h ∷ []
clearing_sent h s = []

-- a circuit that is not connected, and that no channel is on any more, is dropped
abbrev pub unwanted : Handle → Client → Client
unwanted c x =
    if length (channels_on (λ (p : Phase). true) c x) == 0
    then unwrap_or (option_map (λ (d : ClientCircuit). let_go c d x) (under x.circuits c)) x
    else x

-- the ids of the channel's subscriptions are free
abbrev pub unsubscribed_all : Handle → Client → Client
unsubscribed_all h x = record x { subscriptions = monitor.channel_gone h x.subscriptions }

-- the channel's requests and subscriptions are over, and their ids drain on this circuit
abbrev pub all_over : Handle → Handle → Client → Client
all_over c h x =
    with_requests (request.channel_over h x.requests)
    (record x { subscriptions = monitor.channel_over c h x.subscriptions })

-- A cleared channel is gone if nothing of it is on the way. Else its CID drains, and if it was
-- live its other ids too.
abbrev pub cleared : Handle → Standing → Client → Client
cleared h Searching x = without_channel (unsubscribed_all h x) h
cleared h (On c phase.Connecting) x = unwanted c (without_channel (unsubscribed_all h x) h)
cleared h (On c (phase.Creating rights)) x =
    with_standing (On c phase.Doomed) h (unsubscribed_all h x)
cleared h (On c p) x = with_standing (On c phase.Clearing) h (all_over c h x)

-- `clear`. Its notices are Disconnected for each open request of the channel, in order of issue.
-- Only a CLEAR_CHANNEL takes memory.
abbrev pub ClientClears : Client → Handle → Result (List Notice) Refusal → List Sending → Client
    → Type 0
ClientClears old h (Ok notices) sent new =
    (s : Standing) × (standing_at old h ≡ Some s) × (notices ≡ disconnections (asks_on h) old)
    × Does (clearing_sent h s) (cleared h s old) sent new
ClientClears old h (Err refusal.StaleHandle) sent new =
    (standing_at old h ≡ None) × IsUnchanged old sent new
ClientClears old h (Err refusal.OutOfMemory) sent new =
    (l : LiveChannel) × IsLive old h l × IsUnchanged old sent new
ClientClears old h (Err _) sent new = ⊥

-- ---- wanted

-- a circuit that is wanted, and not connected
pub record WantedCircuit : Type 0 where
  pub circuit : Handle
  pub address : Address
  pub priority : ℕ

-- the circuit, unless it is connected
abbrev pub wanted_as : Handle → ClientCircuit → Option WantedCircuit
wanted_as c d =
    if is_none d.connection then Some
    (record { circuit = c; address = d.address; priority = d.priority }) else None

-- `wanted`: the circuits that are wanted, those of name servers first, and then in the order in
-- which they came to be wanted
abbrev pub wanted : Client → List WantedCircuit
wanted x = filter_map (λ (c : Handle). option_and_then (wanted_as c) (under x.circuits c)) x.order
