-- Vocabulary: the subscription at a place, and the queue that has it, for a recorder of histories.
use Rattle.std.specs.Prelude.{ℕ, ◌≡◌, true, false, List, Option, Some, None}
use Rattle.ca_text.specs.Place.{At}
use Rattle.ca_queue.specs.Circuit.{AreInOne, HasAt}
use Rattle.ca_queue.specs.Queue.{Queue}
use Rattle.ca_model.specs.Server.{Subscription, concerns, key_of}
use Rattle.ca_model.specs.Speech.{Stored}

-- A post concerns the subscription at this place, which the queue at that place has and no other;
-- or it concerns none there.
abbrev pub ConcernsAt : (name : List ℕ) → (mask : ℕ) → (place : ℕ) → List Subscription
    → List (Queue Stored) → Option ℕ → Type 0
ConcernsAt name mask place subscriptions queues (Some queue) =
    (s : Subscription) × At subscriptions place s × (concerns name mask s ≡ true)
    × HasAt queues queue (key_of s) × AreInOne queues
ConcernsAt name mask place subscriptions queues None =
    (s : Subscription) → At subscriptions place s → concerns name mask s ≡ false
