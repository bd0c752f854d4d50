-- Working: the subscriptions of an end, which are kept from its first EVENT_ADD on. No clause
-- of a caller needs it.
use Rattle.std.specs.Prelude.{Bool, [], Option, Some, None, replicate}
use Rattle.ca_text.specs.Limits.{circuit_queues}
use Rattle.ca_queue.specs.Queue.{no_queue, switched}
use Rattle.ca_server_subscriptions.specs.Subscribed.{Subscribed}

-- no subscription, with events on or off
abbrev pub none_switched : Bool → Subscribed
none_switched on =
    record { subscriptions = []; queues = replicate circuit_queues (switched on no_queue) }

-- those that are kept, or none, with events on or off
abbrev pub subscribed_of : Option Subscribed → Bool → Subscribed
subscribed_of (Some kept) on = kept
subscribed_of None on = none_switched on
