-- Working: the subscriptions of an end, and an EVENT_ADD without a fault.
use Rattle.std.specs.Prelude.{ℕ, ◌≡◌, ◌<◌, ◌*◌, Bool, false, List, Some, length, map}
use Rattle.ca_arena.specs.declared.handle.Handle.{Handle}
use Rattle.ca_ids.specs.Table.{Table, under}
use Rattle.ca_ids.specs.Wire.{wire_of}
use Rattle.ca_queue.specs.Keys.{is_among}
use Rattle.ca_records.specs.Record.{RecordState}
use Rattle.ca_text.specs.Limits.{circuit_queues, queue_subscriptions}
use Rattle.ca_wire.specs.Fields.{Fields}
use Rattle.ca_wire.specs.Messages.{wanted_in}
use Rattle.ca_model.specs.Due.{key_in, subscription_in}
use Rattle.ca_model.specs.Server.{OpenChannel, ServerEnd, Subscription, key_of}
use Rattle.ca_model.specs.ServerSteps.{TakesIn}
use Rattle.ca_model.specs.Speech.{In}
use Rattle.ca_server_subscriptions.specs.Subscribed.{IsAskable, Subscribed}

-- the subscriptions and the queues of an end
abbrev pub events_of : ServerEnd → Subscribed
events_of e = record { subscriptions = e.subscriptions; queues = e.queues }

-- the subscription of an EVENT_ADD may begin: its key is in use or not, beside that many others
abbrev pub MayBegin : (in_use : Bool) → (others : ℕ) → Fields → Type 0
MayBegin in_use others m =
    IsAskable (wanted_in m) × (in_use ≡ false) × (others < circuit_queues * queue_subscriptions)

-- it may begin on an end
pub record CanJoin (e : ServerEnd) (m : Fields) : Type 0 where
  pub askable : IsAskable (wanted_in m)
  pub new : is_among (key_in m) (map key_of e.subscriptions) ≡ false
  pub few : length e.subscriptions < circuit_queues * queue_subscriptions

-- it began on the end, on this record
abbrev pub HasJoined : RecordState → Fields → ServerEnd → ServerEnd → Type 0
HasJoined r m old new =
    TakesIn (subscription_in m r.name) (record { value = r.value; meta = r.meta }) old new

-- the subscription is on an open channel to the record that it names, which was not removed
abbrev pub IsOnChannel : Table OpenChannel → Subscription → Type 0
IsOnChannel t s =
    (h : Handle) × (c : OpenChannel) × (under t h ≡ Some c) × (wire_of h ≡ s.wanted.sid)
    × (c.name ≡ s.name) × (c.retired ≡ false)

-- each of them is
abbrev pub AreOnChannels : Table OpenChannel → List Subscription → Type 0
AreOnChannels t ss = (s : Subscription) → In ss s → IsOnChannel t s
