-- Vocabulary: the calls of a server on one circuit, by answer (sections "Virtual Circuit" and "CA
-- Protocol Messages"). Each is the contract of the call of `ServerCore` that its comment names.
use Rattle.std.specs.Prelude.{ℕ, ◌≡◌, ◌≢◌, ◌<◌, ◌≤◌, ◌+◌, ◌==◌, ◌&&◌, ◌++◌, ◌⊎◌, Bool, true, false}
use Rattle.std.specs.Prelude.{List, [], ◌∷◌, Option, Some, None, Ok, Err, Result, if◌then◌else◌}
use Rattle.std.specs.Prelude.{is_some, length, map, min, option_map, slice_set, unwrap_or}
use Rattle.std.specs.List.{FoldsTo, list_any}
use Rattle.ca_arena.specs.declared.handle.Handle.{Handle}
use Rattle.ca_dbr.specs.Elements.{Elements}
use Rattle.ca_ids.specs.Table.{MayGive, by_wire, held, is_full, same_handle, under, with_changed}
use Rattle.ca_ids.specs.Table.{with_each, with_freed, with_held}
use Rattle.ca_ids.specs.Wire.{wire_of}
use Rattle.ca_link.specs.Link.{TakesFirst, with_given, with_handed, with_rest, with_sent}
use Rattle.ca_queue.specs.declared.entry.SubKey.{SubKey}
use Rattle.ca_queue.specs.Keys.{same}
use Rattle.ca_queue.specs.Queue.{Queue, added, posted, with_front_taken}
use Rattle.ca_queue.specs.Waiting.{taken}
use Rattle.ca_records.specs.declared.puts.Put.{Put}
use Rattle.ca_records.specs.Puts.{Record, record_named, with_record, with_waiting, with_write}
use Rattle.ca_records.specs.Puts.{withdrawn, written_meta}
use Rattle.ca_text.specs.declared.refusal.Refusal.{Refusal}
use Rattle.ca_text.specs.declared.refusal.Refusal.TheVariants as refusal
use Rattle.ca_text.specs.Limits.{applied_limit, output_limit, queue_subscriptions}
use Rattle.ca_text.specs.Place.{At}
use Rattle.ca_wire.specs.Fields.{Fields}
use Rattle.ca_wire.specs.Messages.{text_in}
use Rattle.ca_wire.specs.Stream.{BadAt, NoneBegins, NotBad}
use Rattle.ca_model.specs.Due.{Action, Adds, Applies, Clears, Drops, Due, Greets, KnownChannel}
use Rattle.ca_model.specs.Due.{KnownRecord, Knows, Names, Opens, Switches, Waits}
use Rattle.ca_model.specs.Ends.{Why, why_of}
use Rattle.ca_model.specs.Ends as why
use Rattle.ca_model.specs.Server.{Ended, Open, OpenChannel, Server, ServerCircuit, ServerEnd}
use Rattle.ca_model.specs.Server.{Subscription, concerns, key_of, new_end, with_events, with_post}
use Rattle.ca_model.specs.Server.{without_subscriptions}
use Rattle.ca_model.specs.Speech.{In, Stored}
use Rattle.ca_model.specs.Updates.{ShowsTo}

-- ---- circuits come, and get bytes

-- the circuit of this handle is open, with this end
abbrev pub HasEnd : Server → Handle → ServerEnd → Type 0
HasEnd y h e = under y.circuits h ≡ Some (Open e)

-- the server with this end of a circuit
abbrev pub with_end : Handle → ServerEnd → Server → Server
with_end h e y = record y { circuits = with_changed (λ (c : ServerCircuit). Open e) h y.circuits }

-- `accept`: a circuit is made, under a handle that may be given; refused by
-- ArenaFull if there is none.
abbrev pub Accepts : Server → Result Handle Refusal → Server → Type 0
Accepts old (Ok h) new =
    MayGive old.circuits h
    × (new ≡ record old { circuits = with_held h (Open (new_end old.moment)) old.circuits })
Accepts old (Err refusal.ArenaFull) new = (is_full old.circuits ≡ true) × (new ≡ old)
Accepts old (Err refusal.OutOfMemory) new = (is_full old.circuits ≡ false) × (new ≡ old)
Accepts old (Err _) new = ⊥

-- `give`: these bytes came on a circuit; refused by CircuitClosed if its end is not open.
abbrev pub Gives : Server → Handle → List ℕ → Result (Unit {0}) Refusal → Server → Type 0
Gives old h bytes (Ok _) new =
    (e : ServerEnd) × HasEnd old h e
    × (new ≡ with_end h (record e { link = with_given old.moment bytes e.link }) old)
Gives old h bytes (Err refusal.CircuitClosed) new =
    ((e : ServerEnd) → HasEnd old h e → ⊥) × (new ≡ old)
Gives old h bytes (Err refusal.OutOfMemory) new =
    ((e : ServerEnd) × HasEnd old h e) × (bytes ≢ []) × (new ≡ old)
Gives old h bytes (Err _) new = ⊥

-- `out_bytes`: what waits to be sent on a circuit whose end is open
abbrev pub output_of : Option ServerCircuit → List ℕ
output_of (Some (Open e)) = e.link.output
output_of c = []

-- `sent`: the first n bytes that waited were handed over; none wait on a circuit
-- whose end is not open.
abbrev pub Sends : Server → Handle → ℕ → Server → Type 0
Sends old h n new =
    ((e : ServerEnd) × HasEnd old h e × (n ≤ length e.link.output)
    × (new ≡ with_end h (record e { link = with_handed n e.link }) old))
    ⊎ (((e : ServerEnd) → HasEnd old h e → ⊥) × (n ≡ 0) × (new ≡ old))

-- ---- circuits end

-- the server without the waiting puts of a circuit: they are never applied
-- ("CA_PROTO_WRITE_NOTIFY")
abbrev pub without_puts_of : Handle → Server → Server
without_puts_of h y =
    record y { records = withdrawn (λ (p : Put). same_handle p.circuit h) y.records }

-- The end of a circuit has ended, and that was reported: nothing of it is kept.
abbrev pub closed : Handle → Server → Server
closed h y = without_puts_of h (record y { circuits = with_freed h y.circuits })

-- The end of a circuit has ended, and left these bytes; a step is to report it.
abbrev pub ended : Handle → Why → (left : List ℕ) → Server → Server
ended h why left y =
    without_puts_of h
    (record y { circuits = with_changed (λ (c : ServerCircuit). Ended why left) h y.circuits })

-- `cut`: the end of a circuit ends, if it is open.
abbrev pub Cuts : Server → Handle → Server → Type 0
Cuts old h new =
    ((e : ServerEnd) × HasEnd old h e × (new ≡ ended h why.Cut e.link.output old))
    ⊎ (((e : ServerEnd) → HasEnd old h e → ⊥) × (new ≡ old))

-- ---- posts reach circuits

-- a post concerns a circuit: a subscription there sees it
abbrev pub is_concerned : (name : List ℕ) → (mask : ℕ) → ServerCircuit → Bool
is_concerned name mask (Open e) = list_any (concerns name mask) e.subscriptions
is_concerned name mask (Ended w left) = false

-- Circuits may end out of memory for a post only if it concerns them.
abbrev pub MayEnd : Server → (name : List ℕ) → (mask : ℕ) → (gone : Handle → Bool) → Type 0
MayEnd y name mask gone =
    (h : Handle) → gone h ≡ true → (c : ServerCircuit) × (under y.circuits h ≡ Some c)
    × (is_concerned name mask c ≡ true)

-- A circuit after a post: it got its updates, or ended out of memory for them.
abbrev pub reached : (name : List ℕ) → (mask : ℕ) → Stored → (gone : Handle → Bool) → Handle
    → ServerCircuit → ServerCircuit
reached name mask v gone h (Open e) =
    if gone h then Ended why.OutOfMemory e.link.output else Open (with_post name mask v e)
reached name mask v gone h (Ended w left) = Ended w left

-- The server after a post to a record, by which these circuits ended out of memory.
abbrev pub after_post : (name : List ℕ) → (mask : ℕ) → Stored → (gone : Handle → Bool) → Server
    → Server
after_post name mask v gone y =
    record y {
      circuits = with_each (reached name mask v gone) y.circuits;
      records = withdrawn (λ (p : Put). gone p.circuit) y.records;
    }

-- the mask of an applied write: VALUE and LOG ("CA_PROTO_EVENT_ADD")
abbrev pub write_mask : ℕ
write_mask = 3

-- what a write to this server stores now: the value, and the stamp that was handed in last
abbrev pub stored_now : Server → Elements → Stored
stored_now y value = record { value = value; meta = written_meta value y.stamp }

-- one more write was applied
abbrev pub counted : Server → Server
counted y = record y { applied = min (y.applied + 1) applied_limit }

-- ---- what a message does

-- a record as the server knows it
abbrev pub known_record : Record → KnownRecord
known_record r = record { state = r.state; busy = is_some r.busy; waits = length r.waiting }

-- an open channel as the server knows it
abbrev pub known_channel : Handle × OpenChannel → KnownChannel
known_channel c =
    record { sid = wire_of c.0; cid = c.1.cid; name = c.1.name; retired = c.1.retired }

-- what a server knows on a circuit
abbrev pub knows : Server → ServerEnd → Knows
knows y e = record {
  port = y.port;
  rules = y.rules;
  record_of = λ (name : List ℕ). option_map known_record (record_named y.records name);
  greeted = e.greeted;
  peer = e.peer;
  settled = e.settled;
  channels = map known_channel (held e.channels);
  full = is_full e.channels;
  keys = map key_of e.subscriptions;
}

-- ---- what that makes of the end and of the records

-- The first queue with room takes a new subscription, and its first entry is the value then
-- ("CA_PROTO_EVENT_ADD").
pub record TakesIn (s : Subscription) (v : Stored) (e new : ServerEnd) : Type 0 where
  pub place : ℕ
  pub q : Queue Stored
  pub at : At e.queues place q
  pub room : length q.subscriptions < queue_subscriptions
  pub first : (i : ℕ) (r : Queue Stored) → i < place → At e.queues i r
      → queue_subscriptions ≤ length r.subscriptions
  pub leaves :
      new ≡ record e {
        subscriptions = e.subscriptions ++ s ∷ [];
        queues = slice_set e.queues place (posted (key_of s) v (added (key_of s) q));
      }

-- The channel that a message creates is held under a handle whose SID it is
-- ("CA_PROTO_CREATE_CHAN").
abbrev pub Creates : ServerEnd → KnownChannel → ServerEnd → Type 0
Creates e c new =
    (h : Handle) × MayGive e.channels h × (wire_of h ≡ c.sid)
    × (new ≡ record e {
      settled = true;
      channels = with_held h (record { cid = c.cid; name = c.name; retired = false }) e.channels;
    })

-- the end without the channel of this SID and its subscriptions ("CA_PROTO_CLEAR_CHANNEL")
abbrev pub without_channel : ℕ → ServerEnd → ServerEnd
without_channel sid e =
    without_subscriptions (λ (k : SubKey). k.sid == sid) (record e {
      channels =
          unwrap_or
          (option_map (λ (c : Handle × OpenChannel). with_freed c.0 e.channels)
          (by_wire e.channels sid)) e.channels;
    })

-- What a message makes of the end that handles it. A write leaves it as it is.
abbrev pub Acts : Server → ServerEnd → Action → ServerEnd → Type 0
Acts y e Greets new = new ≡ record e { greeted = true }
Acts y e (Names p) new = new ≡ record e { peer = p }
Acts y e (Opens c) new = Creates e c new
Acts y e (Clears sid) new = new ≡ without_channel sid e
Acts y e (Adds s) new =
    (r : Record) × (record_named y.records s.name ≡ Some r)
    × TakesIn s (record { value = r.state.value; meta = r.state.meta }) e new
Acts y e (Drops key) new = new ≡ without_subscriptions (same key) e
Acts y e (Switches on) new = new ≡ with_events on e
Acts y e action new = new ≡ e

-- the put with notification that this message on a circuit is: its channel is that of its SID
-- ("CA_PROTO_WRITE_NOTIFY")
abbrev pub IsPut : Handle → ServerEnd → Fields → Put → Type 0
IsPut h e m p =
    (c : Handle × OpenChannel) × (by_wire e.channels m.p1 ≡ Some c)
    × (p ≡ record {
      circuit = h;
      channel = c.0;
      data_type = m.data_type;
      count = m.count;
      ioid = m.p2;
    })

-- What a message makes of the server's records ("CA_PROTO_WRITE", "CA_PROTO_WRITE_NOTIFY",
-- "CA_PROTO_CLEAR_CHANNEL").
abbrev pub Records : Server → Handle → ServerEnd → Fields → Action → Server → Type 0
Records y h e m (Applies name value false) new =
    new ≡ counted (record y { records = with_record name (with_write value y.stamp) y.records })
Records y h e m (Applies name value true) new =
    (p : Put) × IsPut h e m p
    × (new ≡ counted
    (record y {
      records = with_record name
          (λ (r : Record). record (with_write value y.stamp r) { busy = Some p }) y.records;
    }))
Records y h e m (Waits name value) new =
    (p : Put) × IsPut h e m p
    × (new ≡ record y {
      records = with_record name
          (with_waiting (record { put = p; value = value })) y.records;
    })
Records y h e m (Clears sid) new =
    new ≡ record y {
      records = withdrawn
          (λ (p : Put). same_handle p.circuit h && wire_of p.channel == sid) y.records;
    }
Records y h e m action new = new ≡ y

-- The message is handled on this circuit: these replies are due, this is done, and so the server
-- and the circuit's end are after it. A write has not reached the subscriptions yet.
pub record Handles (y : Server) (h : Handle) (e : ServerEnd) (m : Fields) (replies : List Fields)
    (action : Action) (new : Server) : Type 0 where
  pub due : Due (knows y e) m replies action
  pub acted : ServerEnd
  pub acts : Acts y e action acted
  pub recorded : Server
  pub records : Records y h e m action recorded
  pub leaves : new ≡ with_end h (record acted { link = with_sent replies acted.link }) recorded

-- The write of a message, if it is one, reaches all subscriptions of its record; circuits that it
-- concerns may end out of memory for it.
abbrev pub Reaches : Action → (gone : Handle → Bool) → Server → Server → Type 0
Reaches (Applies name value busies) gone y new =
    MayEnd y name write_mask gone × (new ≡ after_post name write_mask (stored_now y value) gone y)
Reaches action gone y new = ((h : Handle) → gone h ≡ false) × (new ≡ y)

-- ---- steps

-- what a step of a server's end did
pub data Stepped : Type 0 where
  Handled NeedBytes OutputFull : Stepped
  Closed : Why → (left : List ℕ) → Stepped

-- There may be no memory for a message that is answered, for one whose text is kept, and for one by
-- which a write is applied or waits or a subscription begins.
abbrev pub NeedsMemory : Fields → List Fields → Action → Type 0
NeedsMemory m replies (Applies name value busies) = Unit {0}
NeedsMemory m replies (Waits name value) = Unit {0}
NeedsMemory m replies (Adds s) = Unit {0}
NeedsMemory m replies (Names p) = (text_in m.payload ≢ []) ⊎ (replies ≢ [])
NeedsMemory m replies action = replies ≢ []

-- The next message of the circuit, whose end can take it: what is due, and what it does.
pub record Next (y : Server) (h : Handle) (e : ServerEnd) : Type 0 where
  pub room : length e.link.output < output_limit
  pub m : Fields
  pub rest : List ℕ
  pub takes : TakesFirst e.link m rest
  pub replies : List Fields
  pub action : Action
  pub after : Server
  pub handles : Handles y h (record e { link = with_rest rest e.link }) m replies action after

-- the message writes at once
abbrev pub is_write : Action → Bool
is_write (Applies name value busies) = true
is_write action = false

-- What is left of the next message of an end that closes on it: nothing; or its write, which
-- reaches all but these circuits.
abbrev pub LeftOf : {y : Server} {h : Handle} {e : ServerEnd} → Next y h e
    → (written : Option (Handle → Bool)) → Server → Type 0
LeftOf {y} {h} {e} next None new = new ≡ y
LeftOf {y} {h} {e} next (Some gone) new =
    (is_write next.action ≡ true) × Reaches next.action gone next.after new

-- The end closes out of memory for the next message, which needs some, and whose replies are not
-- sent. Nothing of it is done; or its write is applied, and this end is one of those that lacked
-- memory for an update of it.
pub record LacksMemory (y : Server) (h : Handle) (e : ServerEnd) (new : Server) : Type 0 where
  pub next : Next y h e
  pub needs : NeedsMemory next.m next.replies next.action
  pub written : Option (Handle → Bool)
  pub itself : (gone : Handle → Bool) → written ≡ Some gone → gone h ≡ true
  pub mid : Server
  pub left_is : LeftOf next written mid
  pub leaves : new ≡ closed h mid

-- A step of an open end.
abbrev pub StepsOpen : Server → Handle → ServerEnd → Stepped → Server → Type 0
StepsOpen old h e OutputFull new = (output_limit ≤ length e.link.output) × (new ≡ old)
StepsOpen old h e NeedBytes new =
    (length e.link.output < output_limit) × NoneBegins e.link.input.bytes
    × NotBad e.link.input.bytes × (new ≡ old)
StepsOpen old h e Handled new =
    (next : Next old h e) × (gone : Handle → Bool) × (gone h ≡ false)
    × Reaches next.action gone next.after new
StepsOpen old h e (Closed why.OutOfMemory left) new =
    (left ≡ e.link.output) × LacksMemory old h e new
StepsOpen old h e (Closed w left) new =
    (length e.link.output < output_limit)
    × ((r : Refusal) × BadAt e.link.input.bytes r × (w ≡ why_of r)) × (left ≡ e.link.output)
    × (new ≡ closed h old)

-- A step of what is under a handle: an open end; one that ended in another call, which is
-- reported now; or no circuit.
abbrev pub StepsAt : Server → Handle → Option ServerCircuit → Stepped → Server → Type 0
StepsAt old h (Some (Open e)) did new = StepsOpen old h e did new
StepsAt old h (Some (Ended w left)) did new = (did ≡ Closed w left) × (new ≡ closed h old)
StepsAt old h None did new = (did ≡ Closed why.Cut []) × (new ≡ old)

-- `step`: an open end takes one message, or the answer says why it takes none. The end of a circuit
-- is reported once, with what it left; under a handle without a circuit each step answers Cut.
abbrev pub Steps : Server → Handle → Stepped → Server → Type 0
Steps old h did new = StepsAt old h (under old.circuits h) did new

-- ---- updates leave the queues

-- an update that left a queue: which queue, which subscription, what it carries and the message
pub record Update : Type 0 where
  pub queue : ℕ
  pub of : Subscription
  pub carries : Stored
  pub message : Fields

-- An update goes into the output from the first queue that may give one, while there is room
-- ("CA_PROTO_EVENT_ADD").
pub record Leaves (e : ServerEnd) (u : Update) (new : ServerEnd) : Type 0 where
  pub room : length e.link.output < output_limit
  pub q : Queue Stored
  pub at : At e.queues u.queue q
  pub first : (i : ℕ) (r : Queue Stored) → i < u.queue → At e.queues i r
      → taken r.events_on r.waiting ≡ None
  pub stands : In e.subscriptions u.of
  pub taken_is : taken q.events_on q.waiting ≡ Some (key_of u.of, u.carries)
  pub shows : ShowsTo u.of.wanted u.carries u.message
  pub leaves : new
      ≡ record e {
        link = with_sent (u.message ∷ []) e.link;
        queues = slice_set e.queues u.queue (with_front_taken q);
      }

-- no update may leave now
abbrev pub Rests : ServerEnd → Type 0
Rests e = (u : Update) (new : ServerEnd) → Leaves e u new → ⊥

-- `pump`: updates leave the queues of an open end until none may; or it ends out of memory for the
-- next, and leaves those before it.
abbrev pub Pumps : Server → Handle → List Update → Server → Type 0
Pumps old h updates new =
    ((e : ServerEnd) × HasEnd old h e
    × ((after : ServerEnd) × FoldsTo Leaves e updates after
    × ((Rests after × (new ≡ with_end h after old))
    ⊎ ((Rests after → ⊥) × (new ≡ ended h why.OutOfMemory after.link.output old)))))
    ⊎ (((e : ServerEnd) → HasEnd old h e → ⊥) × (updates ≡ []) × (new ≡ old))
