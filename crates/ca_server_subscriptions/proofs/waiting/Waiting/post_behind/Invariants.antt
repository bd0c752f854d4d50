use Rattle.std.proofs.Common.{◌≡◌, List, drop, filter, map}
use Rattle.std.specs.List.{fold}
use Rattle.ca_dbr.specs.Elements.{elements}
use Rattle.ca_model.specs.Speech.{Stored}
use Rattle.ca_queue.specs.Circuit.{queue_posted}
use Rattle.ca_queue.specs.Queue.{Queue}
use Rattle.ca_server_subscriptions.specs.ByRecord.{Receiver, is_masked}
use Rattle.ca_server_subscriptions.specs.Subscribed.{ArePlaced, Standings}
use Rattle.ca_server_subscriptions.proofs.waiting.Waiting.post_behind.Given as goal

abbrev pub invariant-posting : goal.invariant-posting
invariant-posting l =
    let v : Stored = l.posted in
    (fold (λ (qs : List (Queue Stored)) (r : Receiver). map (queue_posted r.key v) qs) l.self (filter (is_masked l.mask) (drop l.i l.receivers))
    ≡ fold (λ (qs : List (Queue Stored)) (r : Receiver). map (queue_posted r.key v) qs) l.fn.self (filter (is_masked l.mask) l.receivers))
    × ((es : Standings) → ArePlaced es l.fn.self → ArePlaced es l.self)
