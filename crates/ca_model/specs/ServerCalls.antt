-- Vocabulary: the calls of a server beside its circuits, by answer (sections "Process Variables",
-- "CA_PROTO_WRITE_NOTIFY", "CA_PROTO_SERVER_DISCONN", "CA_PROTO_SEARCH"). Each is the contract of
-- the call of `ServerCore` that its comment names.
use Rattle.std.specs.Prelude.{ℕ, ◌≡◌, ◌≢◌, ◌<◌, ◌≤◌, ◌==◌, ◌&&◌, ◌||◌, ◌++◌, ◌⊎◌, Bool, true}
use Rattle.std.specs.Prelude.{not, List, [], ◌∷◌, Option, Some, None, Ok, Err, Result, drop, filter}
use Rattle.std.specs.Prelude.{if◌then◌else◌, is_some, length, map, max, take}
use Rattle.std.specs.List.{flat_map, list_any}
use Rattle.std.specs.Str.{bytes_eq}
use Rattle.ca_arena.specs.declared.handle.Handle.{Handle}
use Rattle.ca_beacon.specs.Clock as beacon
use Rattle.ca_dbr.specs.DisplayData.{DisplayData}
use Rattle.ca_dbr.specs.Elements.{displayed}
use Rattle.ca_dbr.specs.Held.{bare}
use Rattle.ca_dgram.specs.Datagram.{IsDatagram}
use Rattle.ca_dgram.specs.Packing.{ArePacked}
use Rattle.ca_dgram.specs.Messages.{beacon_message}
use Rattle.ca_ids.specs.Table.{held, under, with_each}
use Rattle.ca_ids.specs.Wire.{wire_of}
use Rattle.ca_link.specs.Link.{with_sent}
use Rattle.ca_queue.specs.declared.entry.SubKey.{SubKey}
use Rattle.ca_records.specs.Calls.{AddFault, MayAdd, PostFault, PostFits}
use Rattle.ca_records.specs.declared.puts.Put.{Put}
use Rattle.ca_records.specs.declared.puts.Stamp.{Stamp}
use Rattle.ca_records.specs.Puts.{Record, WaitingPut, finished, new_record, record_named, removed}
use Rattle.ca_records.specs.Puts.{shown_by, waiting_in, with_record, with_value, withdrawn}
use Rattle.ca_records.specs.Record.{RecordState}
use Rattle.ca_text.specs.Command.{command_number}
use Rattle.ca_text.specs.declared.command.Command.TheVariants as command
use Rattle.ca_text.specs.declared.refusal.Refusal.{Refusal}
use Rattle.ca_text.specs.declared.refusal.Refusal.TheVariants as refusal
use Rattle.ca_text.specs.Status.{normal}
use Rattle.ca_wire.specs.Fields.{Fields}
use Rattle.ca_wire.specs.Header.{short_header}
use Rattle.ca_wire.specs.Message.{header_of, spelled}
use Rattle.ca_wire.specs.Messages.{disconnect, search_reply, text_in}
use Rattle.ca_model.specs.Ends as why
use Rattle.ca_model.specs.Server.{Ended, Open, OpenChannel, Server, ServerCircuit, ServerEnd}
use Rattle.ca_model.specs.Server.{without_subscriptions}
use Rattle.ca_model.specs.ServerSteps.{HasEnd, MayEnd, after_post, counted, is_concerned}
use Rattle.ca_model.specs.ServerSteps.{stored_now, with_end, write_mask}
use Rattle.ca_model.specs.Speech.{Stored}

-- ---- posts

-- `post`: the record has this value and its metadata now, and all subscriptions with a bit of the
-- mask get it. Circuits that it concerns may end out of memory; a post that fits is never refused.
abbrev pub Posts : Server → List ℕ → Stored → (mask : ℕ) → (gone : Handle → Bool)
    → Result (Unit {0}) Refusal → Server → Type 0
Posts old name v mask gone (Ok _) new =
    let stored : Server =
    record old { records = with_record name (with_value v.value v.meta) old.records } in
    PostFits old.records name v.value × MayEnd old name mask gone
    × (new ≡ after_post name mask v gone stored)
Posts old name v mask gone (Err e) new = PostFault old.records name v.value e × (new ≡ old)

-- ---- display data

-- the mask of a change of display data: PROPERTY ("CA_PROTO_EVENT_ADD")
abbrev pub property_mask : ℕ
property_mask = 8

-- `set_display`: the record and what waits for it are shown by these display data now, and all
-- subscriptions with that bit get its value, which stays. Circuits that it concerns may end out of
-- memory.
abbrev pub SetsDisplay : Server → List ℕ → DisplayData → (gone : Handle → Bool)
    → Result (Unit {0}) Refusal → Server → Type 0
SetsDisplay old name d gone (Ok _) new =
    let shown : Server = record old { records = with_record name (shown_by d) old.records } in
    (r : Record) × (record_named old.records name ≡ Some r) × MayEnd old name property_mask gone
    × (new
    ≡ after_post name property_mask
    (record { value = displayed d (bare r.state.value); meta = r.state.meta }) gone shown)
SetsDisplay old name d gone (Err refusal.UnknownRecord) new =
    (record_named old.records name ≡ None) × (new ≡ old)
SetsDisplay old name d gone (Err e) new = ⊥

-- ---- finishes

-- the put that is finished has its reply due: its circuit's end and its channel are open
abbrev pub IsAwaited : Server → Put → ServerEnd → Type 0
IsAwaited y p e = HasEnd y p.circuit e × (is_some (under e.channels p.channel) ≡ true)

-- the reply of a put that is finished
abbrev pub finish_reply : Put → Fields
finish_reply p =
    record {
      command = command_number command.WriteNotify;
      data_type = p.data_type;
      count = p.count;
      p1 = normal;
      p2 = p.ioid;
      payload = [];
    }

-- the server in which the record's busy put is finished, and the next that waits is applied, before
-- that reaches subscriptions
abbrev pub with_finish : List ℕ → Record → Server → Server
with_finish name r y =
    record y { records = with_record name (λ (q : Record). finished y.stamp q q.waiting) y.records }

-- The finish of a busy put, by which this is sent: its reply, if it is awaited; and the next put
-- that waits, if there is one.
pub record Finish (y : Server) (name : List ℕ) (sent : List (Handle × Fields)) : Type 0 where
  pub r : Record
  pub named : record_named y.records name ≡ Some r
  pub p : Put
  pub busy : r.busy ≡ Some p
  -- the circuits that end out of memory: for the reply, if it is not sent; or for an
  -- update of the next put
  pub gone : Handle → Bool
  pub may : (h : Handle) → gone h ≡ true
      → ((h ≡ p.circuit) × ((e : ServerEnd) × IsAwaited y p e) × (sent ≡ []))
      ⊎ ((c : ServerCircuit) × (under y.circuits h ≡ Some c) × (r.waiting ≢ [])
      × (is_concerned name write_mask c ≡ true))

-- the server with this message of its circuit sent
abbrev pub with_message : Handle → ServerEnd → Fields → Server → Server
with_message h e m y = with_end h (record e { link = with_sent (m ∷ []) e.link }) y

-- The reply of a finished put is sent if it is awaited; on a circuit that ends it is left or not.
abbrev pub Replies : (y : Server) (p : Put) → (gone : Handle → Bool)
    → (sent : List (Handle × Fields)) → Server → Type 0
Replies y p gone sent new =
    ((e : ServerEnd) × IsAwaited y p e × (sent ≡ (p.circuit, finish_reply p) ∷ [])
    × (new ≡ with_message p.circuit e (finish_reply p) y))
    ⊎ ((((e : ServerEnd) → IsAwaited y p e → ⊥) ⊎ (gone p.circuit ≡ true)) × (sent ≡ [])
    × (new ≡ y))

-- a circuit, or its end that ended out of memory
abbrev pub lacking : (gone : Handle → Bool) → Handle → ServerCircuit → ServerCircuit
lacking gone h (Open e) = if gone h then Ended why.OutOfMemory e.link.output else Open e
lacking gone h (Ended w left) = Ended w left

-- The next put that waits is applied, and reaches all subscriptions; or nothing waits, and only a
-- circuit without memory ends.
abbrev pub after_next : List ℕ → List WaitingPut → (gone : Handle → Bool) → Server → Server
after_next name [] gone y =
    record y {
      circuits = with_each (lacking gone) y.circuits;
      records = withdrawn (λ (p : Put). gone p.circuit) y.records;
    }
after_next name (p ∷ ps) gone y = after_post name write_mask (stored_now y p.value) gone (counted y)

-- `finish`: refused if no record has the name, or none of its puts is busy. Else the busy put ends,
-- with its reply, and the next is applied: also if it came on the circuit that ends for lack of
-- memory for that reply, since it is applied before that end.
abbrev pub Finishes : Server → List ℕ → (sent : List (Handle × Fields)) → Result (Unit {0}) Refusal
    → Server → Type 0
Finishes old name sent (Ok _) new =
    (f : Finish old name sent) × (mid : Server)
    × Replies (with_finish name f.r old) f.p f.gone sent mid
    × (new ≡ after_next name f.r.waiting f.gone mid)
Finishes old name sent (Err refusal.UnknownRecord) new =
    (record_named old.records name ≡ None) × (sent ≡ []) × (new ≡ old)
Finishes old name sent (Err refusal.NotBusy) new =
    ((r : Record) × (record_named old.records name ≡ Some r) × (r.busy ≡ None)) × (sent ≡ [])
    × (new ≡ old)
Finishes old name sent (Err e) new = ⊥

-- ---- records come and go

-- the open channels of this record on a circuit, in order of index
abbrev pub channels_of : List ℕ → ServerEnd → List (Handle × OpenChannel)
channels_of name e =
    filter (λ (c : Handle × OpenChannel). bytes_eq c.1.name name && not c.1.retired)
    (held e.channels)

-- the SERVER_DISCONNs that are due on a circuit for the removal of a record, in order of index
-- ("CA_PROTO_SERVER_DISCONN")
abbrev pub disconnects : List ℕ → ServerEnd → List Fields
disconnects name e = map (λ (c : Handle × OpenChannel). disconnect c.1.cid) (channels_of name e)

-- the channel, whose record was removed if it has this name
abbrev pub retired : List ℕ → Handle → OpenChannel → OpenChannel
retired name h c = record c { retired = c.retired || bytes_eq c.name name }

-- the key is that of a subscription on one of these channels
abbrev pub is_on : List (Handle × OpenChannel) → SubKey → Bool
is_on channels k = list_any (λ (c : Handle × OpenChannel). wire_of c.0 == k.sid) channels

-- an open end after the removal of a record: each of its channels is retired, has its
-- SERVER_DISCONN and loses its subscriptions
abbrev pub end_without : List ℕ → ServerEnd → ServerEnd
end_without name e =
    without_subscriptions (is_on (channels_of name e))
    (record e {
      link = with_sent (disconnects name e) e.link;
      channels = with_each (retired name) e.channels;
    })

-- A circuit after the removal of a record: or its end has ended out of memory, and left a beginning
-- of its SERVER_DISCONNs.
abbrev pub circuit_without : List ℕ → (gone : Handle → Bool) → (left : Handle → ℕ) → Handle
    → ServerCircuit → ServerCircuit
circuit_without name gone left h (Open e) =
    if gone h then Ended why.OutOfMemory
    (e.link.output ++ spelled (take (left h) (disconnects name e))) else Open (end_without name e)
circuit_without name gone left h (Ended w l) = Ended w l

-- `remove_record`: refused if no record has the name. Its waiting puts go with it, unapplied. A
-- circuit may end out of memory for one of its SERVER_DISCONNs, and leaves those before it.
abbrev pub Removes : Server → List ℕ → (gone : Handle → Bool) → (left : Handle → ℕ)
    → Result (Unit {0}) Refusal → Server → Type 0
Removes old name gone left (Ok _) new =
    (is_some (record_named old.records name) ≡ true)
    × ((h : Handle) → gone h ≡ true → (e : ServerEnd) × HasEnd old h e
    × (left h < length (channels_of name e)))
    × (new ≡ record old {
      records = withdrawn (λ (p : Put). gone p.circuit) (removed name old.records);
      circuits = with_each (circuit_without name gone left) old.circuits;
    })
Removes old name gone left (Err refusal.UnknownRecord) new =
    (record_named old.records name ≡ None) × (new ≡ old)
Removes old name gone left (Err e) new = ⊥

-- `add_record`: the record comes after n of the others, neither busy nor waited for.
abbrev pub AddsRecord : Server → RecordState → (behind : ℕ) → Result (Unit {0}) Refusal → Server
    → Type 0
AddsRecord old s behind (Ok _) new =
    MayAdd old.records s
    × (new ≡ record old {
      records = take behind old.records
          ++ new_record s ∷ drop behind old.records;
    })
AddsRecord old s behind (Err refusal.OutOfMemory) new = MayAdd old.records s × (new ≡ old)
AddsRecord old s behind (Err e) new = AddFault old.records s e × (new ≡ old)

-- ---- datagrams

-- the reply that is due for one message of a datagram: a search for a name that is served is
-- answered, and nothing else
abbrev pub search_answer : Server → Fields → List Fields
search_answer y m =
    if m.command == command_number command.Search && is_some
    (record_named y.records (text_in m.payload)) then search_reply y.port m ∷ [] else []

-- `datagram`: the answers to a datagram, in the order of its searches; the server is as it was.
abbrev pub AnswersDatagram : Server → List ℕ → Result (List (List ℕ)) Refusal → Type 0
AnswersDatagram y bytes (Ok datagrams) =
    (ms : List Fields) × IsDatagram bytes ms × ArePacked (flat_map (search_answer y) ms) datagrams
AnswersDatagram y bytes (Err refusal.OutOfMemory) =
    (ms : List Fields) × IsDatagram bytes ms × (ms ≢ [])
AnswersDatagram y bytes (Err e) = ⊥

-- `beacon`: the beacon that is due at this moment, once, in 16 bytes whatever the port; else
-- nothing. A moment does not go back.
abbrev pub Beacons : Server → (now : ℕ) → Option (List ℕ) → Server → Type 0
Beacons old now None new =
    let at : ℕ = max old.moment now in (at < old.beacons.due) × (new ≡ record old { moment = at })
Beacons old now (Some bytes) new =
    let at : ℕ = max old.moment now in
    (old.beacons.due ≤ at)
    × (bytes ≡ short_header (header_of (beacon_message old.beacons.number old.port)))
    × (new ≡ record old { moment = at; beacons = beacon.sent_at old.beacons at })

-- ---- stamps and counts

-- `stamp`: writes that are applied from now on have this time stamp
abbrev pub stamped : Stamp → Server → Server
stamped s y = record y { stamp = s }

-- `applied`: how many writes were applied: the server's own count
-- `waiting`: how many puts wait
abbrev pub waiting : Server → ℕ
waiting y = waiting_in y.records
