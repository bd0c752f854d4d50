-- Vocabulary: a server by what its callers and its peers can know of it (sections "Virtual Circuit"
-- and "Overall Server Operation").
use Rattle.std.specs.Prelude.{ℕ, ◌&&◌, Bool, false, not, List, [], filter, map, replicate}
use Rattle.std.specs.List.{fold}
use Rattle.std.specs.Str.{bytes_eq}
use Rattle.ca_ids.specs.Table.{Table}
use Rattle.ca_beacon.specs.Clock as beacon
use Rattle.ca_link.specs.Link.{LinkState, new_link}
use Rattle.ca_queue.specs.Circuit.{queue_posted, without_each}
use Rattle.ca_queue.specs.declared.entry.SubKey.{SubKey}
use Rattle.ca_queue.specs.Queue.{Queue, no_queue, switched}
use Rattle.ca_records.specs.declared.puts.Stamp.{Stamp}
use Rattle.ca_records.specs.Puts.{Record, new_record}
use Rattle.ca_records.specs.Record.{RecordState}
use Rattle.ca_records.specs.Rules.{Rule}
use Rattle.ca_text.specs.Limits.{circuit_queues}
use Rattle.ca_wire.specs.declared.requests.Wanted.{Wanted}
use Rattle.ca_model.specs.Ends.{Peer, Why}
use Rattle.ca_model.specs.Speech.{Stored, share_bit}

-- A channel that is open: its CID, the name of its record, and whether that record was removed: its
-- SID is retired then. The handle under which it is held is that of its SID ("Channels").
pub record OpenChannel : Type 0 where
  pub cid : ℕ
  pub name : List ℕ
  pub retired : Bool

-- a subscription: what its EVENT_ADD names, the record and the mask ("CA_PROTO_EVENT_ADD")
pub record Subscription : Type 0 where
  pub wanted : Wanted
  pub name : List ℕ
  pub mask : ℕ

-- its key in a queue: the SID and the subscription id ("CA_PROTO_EVENT_ADD")
abbrev pub key_of : Subscription → SubKey
key_of s = record { sid = s.wanted.sid; sub = s.wanted.id }

-- An open end: its bytes; whether the peer greeted; how it named itself, and whether that is
-- settled, since a channel was created; the open channels; the subscriptions, in the order of their
-- EVENT_ADDs; and the queues of updates ("Virtual Circuit").
pub record ServerEnd : Type 0 where
  pub link : LinkState
  pub greeted : Bool
  pub peer : Peer
  pub settled : Bool
  pub channels : Table OpenChannel
  pub subscriptions : List Subscription
  pub queues : List (Queue Stored)

-- the end of a circuit that was accepted at this moment
abbrev pub new_end : ℕ → ServerEnd
new_end now = record {
  link = new_link now;
  greeted = false;
  peer = record { user = []; host = [] };
  settled = false;
  channels = [];
  subscriptions = [];
  queues = replicate circuit_queues no_queue;
}

-- A circuit: its end is open, or it ended in a call that did not report it, and left these bytes. A
-- step reports that once.
pub data ServerCircuit : Type 0 where
  Open : ServerEnd → ServerCircuit
  Ended : Why → List ℕ → ServerCircuit

-- A server: its TCP port, its rules, its records in some order, the stamp of writes, the
-- moment that was given last, its circuits, its beacons, and how many writes were applied
-- ("Overall Server Operation").
pub record Server : Type 0 where
  pub port : ℕ
  pub rules : List Rule
  pub records : List Record
  pub stamp : Stamp
  pub moment : ℕ
  pub circuits : Table ServerCircuit
  pub beacons : beacon.Clock
  pub applied : ℕ

-- a server that begins at this moment
abbrev pub new_server : (port now : ℕ) → List Rule → List RecordState → Server
new_server port now rules states = record {
  port = port;
  rules = rules;
  records = map new_record states;
  stamp = record { seconds = 0; nanos = 0 };
  moment = now;
  circuits = [];
  beacons = beacon.fresh now;
  applied = 0;
}

-- ---- updates at one end

-- a post to this record, with this mask, concerns a subscription ("CA_PROTO_EVENT_ADD")
abbrev pub concerns : (name : List ℕ) → (mask : ℕ) → Subscription → Bool
concerns name mask s = bytes_eq s.name name && share_bit mask s.mask

-- The end after a post: each subscription that it concerns gets an entry, in the order of their
-- EVENT_ADDs ("CA_PROTO_EVENT_ADD").
abbrev pub with_post : (name : List ℕ) → (mask : ℕ) → Stored → ServerEnd → ServerEnd
with_post name mask v e = record e {
  queues =
      fold (λ (qs : List (Queue Stored)) (s : Subscription). map
      (queue_posted (key_of s) v) qs) e.queues (filter (concerns name mask) e.subscriptions);
}

-- the end without the subscriptions that a test names ("CA_PROTO_EVENT_CANCEL")
abbrev pub without_subscriptions : (SubKey → Bool) → ServerEnd → ServerEnd
without_subscriptions gone e =
    record e {
      subscriptions = filter (λ (s : Subscription). not (gone (key_of s))) e.subscriptions;
      queues = without_each gone e.queues;
    }

-- updates may be taken again, or only while some subscription has two ("CA_PROTO_EVENTS_OFF",
-- "CA_PROTO_EVENTS_ON")
abbrev pub with_events : Bool → ServerEnd → ServerEnd
with_events on e = record e { queues = map (switched on) e.queues }
