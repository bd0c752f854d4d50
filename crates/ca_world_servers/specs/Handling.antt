-- Working: what a message that a server handled leaves on its circuit and in the records, as the
-- statement's functions of its action.
use Rattle.std.specs.Prelude.{ℕ, ◌≡◌, ◌+◌, ◌≤◌, ◌++◌, ◌==◌, Bool, true, List, [], ◌∷◌, Some, filter}
use Rattle.std.specs.Prelude.{IsTrue, length, map, nat_le, not, vec_capacity, vec_len}
use Rattle.std.specs.Str.{bytes_eq}
use Rattle.ca_queue.specs.declared.entry.SubKey.{SubKey}
use Rattle.ca_queue.specs.Queue.{Queue, switched}
use Rattle.ca_text.specs.Command.{command_number}
use Rattle.ca_text.specs.declared.command.Command.TheVariants as command
use Rattle.ca_text.specs.Limits.{queue_subscriptions}
use Rattle.ca_text.specs.Place.{At}
use Rattle.ca_model.specs.ClientEvents.{place_of}
use Rattle.ca_model.specs.History.{Step, Told, Update}
use Rattle.ca_model.specs.ServerEvents.{number_taken, without_standing}
use Rattle.ca_model.specs.World.{Creation, Joined, PutPlace, RecordSide}
use Rattle.ca_world_data.specs.declared.history.Cause.{Cause as Written}
use Rattle.ca_world_data.specs.declared.joined.Joined.{Joined as Opened}
use Rattle.ca_world_data.specs.declared.server.RecordSide.{RecordSide as Kept}

-- ---- a circuit

-- The circuit has room for n replies, and for the step of a message that is handled.
pub record HasRoomToNote (replies : ℕ) (j : Opened) : Type 0 where
  pub down : vec_len j.lists.down + replies ≤ vec_capacity j.lists.down
  pub handled : vec_len j.lists.handled + 1 ≤ vec_capacity j.lists.handled

-- it has room for one more channel
abbrev pub HasRoomToCreate : Opened → Type 0
HasRoomToCreate j = vec_len j.creations + 1 ≤ vec_capacity j.creations

-- a queue has room for one more subscription
abbrev pub has_room : Queue (ℕ × Written) × Bool → Bool
has_room q = not (nat_le queue_subscriptions (length q.0.subscriptions))

-- the first queue with room for one more subscription has its memory, if there is one
abbrev pub FirstIsRoomy : List (Queue (ℕ × Written) × Bool) → Type 0
FirstIsRoomy qs = (q : Queue (ℕ × Written) × Bool) → At qs (place_of has_room qs) q → IsTrue q.1

-- the circuit has room for one more subscription, with its first number
pub record HasRoomToSubscribe (j : Opened) : Type 0 where
  pub standing : vec_len j.standing + 1 ≤ vec_capacity j.standing
  pub queue : FirstIsRoomy j.queues.items

-- it has room for what a message of this command may begin
pub record HasRoomToBegin (number : ℕ) (j : Opened) : Type 0 where
  pub channel : number ≡ command_number command.CreateChannel → HasRoomToCreate j
  pub subscription : number ≡ command_number command.EventAdd → HasRoomToSubscribe j

-- a message was handled in this step, by these replies: `handled_at` of the statement
abbrev pub with_handled : Step → List Told → Joined → Joined
with_handled step told j =
    record j {
      lists = record j.lists {
        down = j.lists.down ++ told;
        handled = j.lists.handled ++ step ∷ [];
      };
    }

-- a channel was created by the message at this place: `numbers_after` of the statement, for `Opens`
abbrev pub with_creation : (sid place : ℕ) → Joined → Joined
with_creation sid place j =
    record j { creations = j.creations ++ record { sid = sid; place = place } ∷ [] }

-- a subscription began by the message at this place: `numbers_after` for `Adds`
abbrev pub with_standing : SubKey → (place : ℕ) → Joined → Joined
with_standing key place j =
    record j {
      standing = j.standing ++ record { key = key; place = place; posts = 1 } ∷ [];
      queues = number_taken key (place, Update 0) j.queues;
    }

-- events are on or off: `numbers_after` for `Switches`
abbrev pub with_switched : Bool → Joined → Joined
with_switched on j = record j { queues = map (switched on) j.queues }

-- the channel of this SID is over, and so are its subscriptions: `numbers_after` for `Clears`
abbrev pub without_sid : (sid : ℕ) → Joined → Joined
without_sid sid j =
    without_standing (λ (k : SubKey). k.sid == sid)
    (record j { creations = filter (λ (c : Creation). not (c.sid == sid)) j.creations })

-- ---- records

-- the put makes the record busy: `records_after` of the statement, for `Applies`
abbrev pub made_busy : PutPlace → RecordSide → RecordSide
made_busy p r = record r { busy = Some p }

-- the put waits for it: `records_after` for `Waits`
abbrev pub with_waiting : PutPlace → RecordSide → RecordSide
with_waiting p r = record r { waiting = r.waiting ++ p ∷ [] }

-- a record of this name has room for one more put that waits
abbrev pub MayWait : List ℕ → Kept → Type 0
MayWait name r = bytes_eq r.name.items name ≡ true → vec_len r.waiting + 1 ≤ vec_capacity r.waiting

-- each of these has it
abbrev pub HaveRoomToWait : List ℕ → List Kept → Type 0
HaveRoomToWait name rs = (i : ℕ) (r : Kept) → At rs i r → MayWait name r
