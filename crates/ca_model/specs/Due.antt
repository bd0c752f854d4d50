-- Vocabulary: the replies that are due for a message, and what it does, by cases on every command
-- (section "CA Protocol Messages").
use Rattle.std.specs.Prelude.{ℕ, ◌≡◌, ◌≢◌, ◌<◌, ◌^◌, ◌%◌, ◌⊎◌, ◌==◌, ◌&&◌, Bool, true, false, List}
use Rattle.std.specs.Prelude.{[], ◌∷◌, Option, Some, None, Ok, if◌then◌else◌, is_some, length}
use Rattle.std.specs.List.{list_any}
use Rattle.ca_text.specs.Command.{command_number}
use Rattle.ca_text.specs.declared.command.Command.{Command}
use Rattle.ca_text.specs.declared.command.Command.TheVariants as command
use Rattle.ca_text.specs.Status.{bad_channel, normal}
use Rattle.ca_dbr.specs.declared.data_type.BaseType.{BaseType}
use Rattle.ca_dbr.specs.Elements.{Elements, base_of, count_of}
use Rattle.ca_dbr.specs.Held.{kind_of}
use Rattle.ca_dbr.specs.Reading.{ReadsElements}
use Rattle.ca_dbr.specs.Types.{base_number}
use Rattle.ca_display.specs.declared.image_type.ImageType.{ImageType}
use Rattle.ca_queue.specs.declared.entry.SubKey.{SubKey}
use Rattle.ca_queue.specs.Keys.{is_among}
use Rattle.ca_records.specs.Faults.{late_put_fault}
use Rattle.ca_records.specs.Given.{given_as}
use Rattle.ca_records.specs.Record.{RecordState}
use Rattle.ca_records.specs.Rules.{Rule, rights}
use Rattle.ca_wire.specs.Fields.{Fields}
use Rattle.ca_wire.specs.Messages.{header_only, cancel_reply, cleared_reply, created_reply}
use Rattle.ca_wire.specs.Messages.{error_reply}
use Rattle.ca_wire.specs.Messages.{failed_reply, mask_in, no_cid, not_found_reply, rights_reply}
use Rattle.ca_wire.specs.Messages.{search_reply, status_reply, text_in, value_reply, version_reply}
use Rattle.ca_model.specs.Ends.{Peer}
use Rattle.ca_model.specs.Faults.{early_put_fault, read_fault, read_shown}
use Rattle.ca_model.specs.Faults.{subscription_fault}
use Rattle.ca_model.specs.Images.{base_type_of, image_of, image_type_of}
use Rattle.ca_model.specs.Server.{Subscription}
use Rattle.ca_model.specs.Speech.{In}

-- ---- what a server knows

-- an open channel: its SID and CID, the name of its record, and whether that was removed
pub record KnownChannel : Type 0 where
  pub sid : ℕ
  pub cid : ℕ
  pub name : List ℕ
  pub retired : Bool

-- a record as it is: its value, whether a put made it busy, and how many puts wait
pub record KnownRecord : Type 0 where
  pub state : RecordState
  pub busy : Bool
  pub waits : ℕ

-- What a server knows when it handles a message of a circuit: its port and rules, and the record of
-- each name; whether the peer greeted; how it named itself, and whether that is settled; the open
-- channels, and whether no SID may be given; and the keys of subscriptions.
pub record Knows : Type 0 where
  pub port : ℕ
  pub rules : List Rule
  pub record_of : List ℕ → Option KnownRecord
  pub greeted : Bool
  pub peer : Peer
  pub settled : Bool
  pub channels : List KnownChannel
  pub full : Bool
  pub keys : List SubKey

-- What a message does beside its replies.
pub data Action : Type 0 where
  Nothing : Action
  -- the peer greeted, or named itself
  Greets : Action
  Names : Peer → Action
  -- a channel is created, or the one of this SID cleared
  Opens : KnownChannel → Action
  Clears : ℕ → Action
  -- a value, in the type of the record of this name, is applied, and makes it
  -- busy or not; or it waits
  Applies : List ℕ → Elements → Bool → Action
  Waits : List ℕ → Elements → Action
  -- a subscription begins, or ends
  Adds : Subscription → Action
  Drops : SubKey → Action
  -- events are turned on or off
  Switches : Bool → Action

-- An open channel whose record is there, and that record as it is.
pub record Serves (k : Knows) (sid : ℕ) : Type 0 where
  pub channel : KnownChannel
  pub open_there : In k.channels channel
  pub under : channel.sid ≡ sid
  pub there : channel.retired ≡ false
  pub known : KnownRecord
  pub named : k.record_of channel.name ≡ Some known

-- The access rights on a record, which stay for a channel's life: the names are settled by then
-- ("CA_PROTO_ACCESS_RIGHTS").
abbrev pub rights_at : Knows → List ℕ → ℕ
rights_at k name = rights k.rules k.peer.user k.peer.host name

-- ---- SEARCH ("CA_PROTO_SEARCH", "CA_PROTO_NOT_FOUND")

-- A search for a name that is served is answered; another by NOT_FOUND if its type asks for
-- that; else by nothing.
abbrev pub search_due : Knows → Fields → List Fields
search_due k m =
    if is_some (k.record_of (text_in m.payload)) then search_reply k.port m ∷ []
    else if m.data_type == 10 then not_found_reply m ∷ [] else []

-- ---- CREATE_CHAN ("CA_PROTO_CREATE_CHAN", "CA_PROTO_CREATE_CH_FAIL")

-- the CID is in use
abbrev pub CidTaken : Knows → ℕ → Type 0
CidTaken k cid = (c : KnownChannel) × In k.channels c × (c.cid ≡ cid)

-- A channel is created: a record has its name, its CID is not in use, and it gets a SID whose index
-- no open channel has. Which one is the server's choice. ACCESS_RIGHTS goes before the reply.
pub record IsCreated (k : Knows) (m : Fields) (replies : List Fields)
    (action : Action) : Type 0 where
  pub known : KnownRecord
  pub named : k.record_of (text_in m.payload) ≡ Some known
  pub cid_free : CidTaken k m.p1 → ⊥
  pub sid : ℕ
  pub fits : sid < 2 ^ 32
  pub sid_free : (c : KnownChannel) → In k.channels c → c.sid % 2 ^ 16 ≢ sid % 2 ^ 16
  pub are :
      let state : RecordState = known.state in
      replies ≡ rights_reply m (rights_at k state.name) ∷ created_reply m
      (base_number (base_of state.value)) state.count sid ∷ []
  pub does : action ≡ Opens
      (record { sid = sid; cid = m.p1; name = text_in m.payload; retired = false })

-- A channel is not created: no record has its name, its CID is in use, or no SID may be given.
pub record IsNotCreated (k : Knows) (m : Fields) (replies : List Fields)
    (action : Action) : Type 0 where
  pub why : (k.record_of (text_in m.payload) ≡ None) ⊎ (CidTaken k m.p1 ⊎ (k.full ≡ true))
  pub are : replies ≡ failed_reply m ∷ []
  pub does : action ≡ Nothing

-- ---- READ_NOTIFY ("CA_PROTO_READ_NOTIFY")

-- the first fault of a read
abbrev pub fault_of_read : (k : Knows) (m : Fields) → Serves k m.p1 → Option ℕ
fault_of_read k m c =
    read_fault c.known.state (rights_at k c.channel.name) m (image_type_of m.data_type)

-- The reply to a read on an open channel: its first fault, or the elements that it is shown.
abbrev pub ReadDue : Knows → Fields → List Fields → Action → Type 0
ReadDue k m replies action =
    (c : Serves k m.p1) × (action ≡ Nothing)
    × (((status : ℕ) × (fault_of_read k m c ≡ Some status) × (replies ≡ status_reply m status ∷ []))
    ⊎ ((fault_of_read k m c ≡ None)
    × ((t : ImageType) × (e : Elements) × (image_type_of m.data_type ≡ Some t)
    × (read_shown c.known.state m t ≡ Ok e)
    × (replies ≡ value_reply m (count_of e)
    (image_of c.known.state.value t e c.known.state.meta) ∷ []))))

-- ---- WRITE and WRITE_NOTIFY ("CA_PROTO_WRITE", "CA_PROTO_WRITE_NOTIFY")

-- the elements of a put are those at the front of its payload
pub record PutReads (m : Fields) (e : Elements) : Type 0 where
  pub base : BaseType
  pub typed : base_type_of m.data_type ≡ Some base
  pub reads : ReadsElements base m.count m.payload e

-- the first fault of a put, before its elements are read
abbrev pub early_fault : (k : Knows) (m : Fields) → Serves k m.p1 → Option ℕ
early_fault k m c =
    early_put_fault c.known.state (rights_at k c.channel.name) m (base_type_of m.data_type)

-- a put with notification on this record has to wait
abbrev pub must_wait : (k : Knows) (m : Fields) → Serves k m.p1 → Bool
must_wait k m c = m.command == command_number command.WriteNotify && c.known.busy

-- and then the first fault of these elements
abbrev pub late_fault : (k : Knows) (m : Fields) → Serves k m.p1 → Elements → Option ℕ
late_fault k m c e = late_put_fault c.known.state (must_wait k m c) c.known.waits e

-- A put on an open channel is refused by this status.
abbrev pub PutRefused : (k : Knows) (m : Fields) → Serves k m.p1 → ℕ → Type 0
PutRefused k m c status =
    (early_fault k m c ≡ Some status)
    ⊎ ((early_fault k m c ≡ None)
    × ((e : Elements) × PutReads m e × (late_fault k m c e ≡ Some status)))

-- The value that a put without fault writes, in the type of its record and with its display data.
pub record PutTaken (k : Knows) (m : Fields) (c : Serves k m.p1) (value : Elements) : Type 0 where
  pub elements : Elements
  pub early : early_fault k m c ≡ None
  pub reads : PutReads m elements
  pub late : late_fault k m c elements ≡ None
  pub is : given_as elements (kind_of c.known.state.value) ≡ Ok value

-- A WRITE is applied at once and has no reply; a refused one is answered by ERROR.
abbrev pub WriteDue : Knows → Fields → List Fields → Action → Type 0
WriteDue k m replies action =
    (c : Serves k m.p1)
    × (((status : ℕ) × PutRefused k m c status × (replies ≡ error_reply c.channel.cid status m ∷ [])
    × (action ≡ Nothing))
    ⊎ ((value : Elements) × PutTaken k m c value × (replies ≡ [])
    × (action ≡ Applies c.channel.name value false)))

-- A WRITE_NOTIFY is refused in its reply, or taken: it waits if the record is busy; else it
-- is applied at once, and on a slow record it makes the record busy, and its reply is due
-- when that is finished.
abbrev pub PutDue : Knows → Fields → List Fields → Action → Type 0
PutDue k m replies action =
    (c : Serves k m.p1)
    × (((status : ℕ) × PutRefused k m c status × (replies ≡ status_reply m status ∷ [])
    × (action ≡ Nothing))
    ⊎ ((value : Elements) × PutTaken k m c value
    × (replies ≡ (if c.known.state.slow then [] else status_reply m normal ∷ []))
    × (action ≡
    (if must_wait k m c then Waits c.channel.name value
    else Applies c.channel.name value c.known.state.slow))))

-- the reply that comes late, once its put is finished: for one that makes its record busy, or waits
abbrev pub late_reply : Fields → Action → Option Fields
late_reply m (Applies name value true) = Some (status_reply m normal)
late_reply m (Waits name value) = Some (status_reply m normal)
late_reply m action = None

-- ---- EVENT_ADD ("CA_PROTO_EVENT_ADD")

-- the subscription that an EVENT_ADD asks for, on a record
abbrev pub subscription_in : Fields → List ℕ → Subscription
subscription_in m name =
    record {
      wanted = record { sid = m.p1; id = m.p2; data_type = m.data_type; count = m.count };
      name = name;
      mask = mask_in m;
    }

-- the SID and the subscription id of a message
abbrev pub key_in : Fields → SubKey
key_in m = record { sid = m.p1; sub = m.p2 }

-- the first fault of an EVENT_ADD
abbrev pub fault_of_event : (k : Knows) (m : Fields) → Serves k m.p1 → Option ℕ
fault_of_event k m c =
    subscription_fault c.known.state (rights_at k c.channel.name) (is_among (key_in m) k.keys)
    (length k.keys) m (image_type_of m.data_type)

-- An EVENT_ADD is refused by ERROR, or its subscription begins, without a reply.
abbrev pub EventDue : Knows → Fields → List Fields → Action → Type 0
EventDue k m replies action =
    (c : Serves k m.p1)
    × (((status : ℕ) × (fault_of_event k m c ≡ Some status)
    × (replies ≡ error_reply c.channel.cid status m ∷ []) × (action ≡ Nothing))
    ⊎ ((fault_of_event k m c ≡ None) × (replies ≡ [])
    × (action ≡ Adds (subscription_in m c.channel.name))))

-- ---- a SID on which nothing is served

-- No open channel has the SID: an ERROR has no CID then.
abbrev pub IsUnknown : Knows → ℕ → ℕ → Type 0
IsUnknown k sid cid = ((c : KnownChannel) → In k.channels c → c.sid ≢ sid) × (cid ≡ no_cid)

-- The SID is retired: its record was removed. An ERROR has its CID.
abbrev pub IsRetired : Knows → ℕ → ℕ → Type 0
IsRetired k sid cid =
    (c : KnownChannel) × In k.channels c × (c.sid ≡ sid) × (c.retired ≡ true) × (c.cid ≡ cid)

-- Nothing is served on the SID of the message: BADCHID, in its own reply or by an ERROR with this
-- CID ("Status Codes").
abbrev pub StrayDue : Knows → Fields → (ℕ → Fields) → List Fields → Action → Type 0
StrayDue k m reply replies action =
    (cid : ℕ) × (IsUnknown k m.p1 cid ⊎ IsRetired k m.p1 cid) × (replies ≡ reply cid ∷ [])
    × (action ≡ Nothing)

-- ---- every command

-- a name that the peer gives itself counts until a channel was created ("CA_PROTO_CLIENT_NAME",
-- "CA_PROTO_HOST_NAME")
abbrev pub named : Knows → Peer → Action
named k p = if k.settled then Nothing else Names p

-- the commands that a server acts on
abbrev pub is_known : ℕ → Bool
is_known n =
    list_any (λ (c : Command). n == command_number c) (
    command.Version ∷ command.EventAdd ∷ command.EventCancel ∷ command.Write ∷ command.Search
    ∷ command.EventsOff ∷ command.EventsOn ∷ command.ClearChannel
    ∷ command.ReadNotify ∷ command.CreateChannel ∷ command.WriteNotify ∷ command.ClientName
    ∷ command.HostName ∷ command.Echo ∷ []
    )

-- The message is due these replies, and does this. One with any other command is skipped
-- by its length; each EVENT_CANCEL is confirmed and each CLEAR_CHANNEL answered; of
-- VERSIONs only the first is.
pub record Due (k : Knows) (m : Fields) (replies : List Fields) (action : Action) : Type 0 where
  pub version : m.command ≡ command_number command.Version
      → (replies ≡ (if k.greeted then [] else version_reply ∷ [])) × (action ≡ Greets)
  pub user : m.command ≡ command_number command.ClientName → (replies ≡ [])
      × (action ≡ named k (record k.peer { user = text_in m.payload }))
  pub host : m.command ≡ command_number command.HostName → (replies ≡ [])
      × (action ≡ named k (record k.peer { host = text_in m.payload }))
  pub echo : m.command ≡ command_number command.Echo → (replies ≡ header_only command.Echo ∷ [])
      × (action ≡ Nothing)
  pub search : m.command ≡ command_number command.Search → (replies ≡ search_due k m)
      × (action ≡ Nothing)
  pub create : m.command ≡ command_number command.CreateChannel → IsCreated k m replies action
      ⊎ IsNotCreated k m replies action
  pub read : m.command ≡ command_number command.ReadNotify → ReadDue k m replies action
      ⊎ StrayDue k m (λ cid. status_reply m bad_channel) replies action
  pub write : m.command ≡ command_number command.Write → WriteDue k m replies action
      ⊎ StrayDue k m (λ cid. error_reply cid bad_channel m) replies action
  pub put : m.command ≡ command_number command.WriteNotify → PutDue k m replies action
      ⊎ StrayDue k m (λ cid. status_reply m bad_channel) replies action
  pub subscribe : m.command ≡ command_number command.EventAdd → EventDue k m replies action
      ⊎ StrayDue k m (λ cid. error_reply cid bad_channel m) replies action
  pub cancel : m.command ≡ command_number command.EventCancel → (replies ≡ cancel_reply m ∷ [])
      × (action ≡ Drops (key_in m))
  pub off : m.command ≡ command_number command.EventsOff → (replies ≡ [])
      × (action ≡ Switches false)
  pub on : m.command ≡ command_number command.EventsOn → (replies ≡ []) × (action ≡ Switches true)
  pub clear : m.command ≡ command_number command.ClearChannel → (replies ≡ cleared_reply m ∷ [])
      × (action ≡ Clears m.p1)
  pub other : is_known m.command ≡ false → (replies ≡ []) × (action ≡ Nothing)
