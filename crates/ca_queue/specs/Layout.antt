-- What the fields of an event queue stand for. No clause of a caller needs it.
use Rattle.std.specs.Prelude.{ℕ, ◌≡◌, ◌≤◌, ◌<◌, ◌&&◌, nat_le, Bool, if◌then◌else◌, List, [], ◌∷◌}
use Rattle.std.specs.Prelude.{length, map}
use Rattle.ca_text.specs.Limits.{queue_places, queue_subscriptions}
use Rattle.ca_queue.specs.declared.entry.SubKey.{SubKey}
use Rattle.ca_queue.specs.declared.list_queue.Subscriber.{Subscriber}
use Rattle.ca_queue.specs.Keys.{same}
use Rattle.ca_queue.specs.Waiting.{count_of}
use Rattle.ca_queue.specs.Queue.{Queue}
use Rattle.ca_queue.specs.Sound.{IsSound}

-- the subscriptions of these counts
abbrev pub keys_of : List Subscriber → List SubKey
keys_of subscriptions = map (λ s. s.key) subscriptions

-- the count that is with a subscription, or 0 if it is not here
abbrev pub count_at : SubKey → List Subscriber → ℕ
count_at key [] = 0
count_at key (s ∷ rest) = if same key s.key then s.waiting else count_at key rest

-- another count with this subscription
abbrev pub recounted : SubKey → ℕ → Subscriber → Subscriber
recounted key count s = if same key s.key then record { key = s.key; waiting = count } else s

-- there is room for all entries and subscriptions that come
abbrev pub is_roomy : ℕ → ℕ → Bool
is_roomy places room = nat_le queue_places places && nat_le queue_subscriptions room

-- it was made before the first subscription was added
abbrev pub HasRoom : List Subscriber → ℕ → ℕ → Type 0
HasRoom subscriptions places room =
    0 < length subscriptions → (queue_places ≤ places) × (queue_subscriptions ≤ room)

module _ {E : Type 0} where
  abbrev pub queue_of : List (SubKey × E) → List Subscriber → Bool → Queue E
  queue_of entries subscriptions on =
      record { waiting = entries; subscriptions = keys_of subscriptions; events_on = on }

  -- each subscription with the number of its entries
  abbrev pub counts : List SubKey → List (SubKey × E) → List Subscriber
  counts keys entries = map (λ key. record { key = key; waiting = count_of key entries }) keys

  -- the fields stand for something sound, the counts are right, and what comes finds room
  pub record IsLaidOut (entries : List (SubKey × E)) (subscriptions : List Subscriber) (on : Bool)
      (places room : ℕ) : Type 0 where
    pub sound : IsSound (queue_of entries subscriptions on)
    pub counted : subscriptions ≡ counts (keys_of subscriptions) entries
    pub roomy : HasRoom subscriptions places room
