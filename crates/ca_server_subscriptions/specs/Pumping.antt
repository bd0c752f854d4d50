-- Working: an update waits in the queues of an end, or leaves them.
use Rattle.std.specs.Prelude.{ℕ, ◌≡◌, Option, Some, None, length, slice_set}
use Rattle.ca_text.specs.Place.{At}
use Rattle.ca_queue.specs.Circuit.{RestBefore, entry_in}
use Rattle.ca_queue.specs.Queue.{Queue, with_front_taken}
use Rattle.ca_queue.specs.Waiting.{taken}
use Rattle.ca_wire.specs.declared.requests.Wanted.{Wanted}
use Rattle.ca_model.specs.Server.{Subscription, key_of}
use Rattle.ca_model.specs.Speech.{In, Stored}
use Rattle.ca_server_subscriptions.specs.Subscribed.{Subscribed}

-- An update was taken from the first queue that may give one, for whoever asked so; or none may.
abbrev pub GivesUpdate : Subscribed → Option (Wanted × Stored) → Subscribed → Type 0
GivesUpdate old None new = RestBefore old.queues (length old.queues) × (new ≡ old)
GivesUpdate old (Some (w, v)) new =
    (place : ℕ) × (q : Queue Stored) × (s : Subscription) × At old.queues place q
    × RestBefore old.queues place × (taken q.events_on q.waiting ≡ Some (key_of s, v))
    × In old.subscriptions s × (s.wanted ≡ w)
    × (new ≡ record old { queues = slice_set old.queues place (with_front_taken q) })

-- An update for this subscription has this number from the front of the queue at this place.
abbrev pub WaitsAt : Subscribed → (place index : ℕ) → Subscription → Stored → Type 0
WaitsAt s place index x v =
    In s.subscriptions x × (entry_in s.queues place index ≡ Some (key_of x, v))

-- Such an update is given, if one waits there, for whoever asked so.
abbrev pub GivesAt : Subscribed → (place index : ℕ) → Option (Wanted × Stored) → Type 0
GivesAt s place index given =
    (x : Subscription) (v : Stored) → WaitsAt s place index x v → given ≡ Some (x.wanted, v)

-- an update may be taken next, for whoever asked so
abbrev pub MayGive : Subscribed → Wanted → Stored → Type 0
MayGive old w v = (new : Subscribed) × GivesUpdate old (Some (w, v)) new
