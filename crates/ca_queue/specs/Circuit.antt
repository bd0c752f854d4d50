-- Vocabulary: the queues of a circuit. Each of its subscriptions is in one of them.
use Rattle.std.specs.Prelude.{ℕ, ◌≡◌, ◌<◌, ◌≤◌, Bool, true, false, if◌then◌else◌, List, [], Option}
use Rattle.std.specs.Prelude.{Some, None, Result, Ok, Err, length, map, option_and_then, slice_get}
use Rattle.std.specs.Prelude.{slice_set}
use Rattle.std.specs.List.{fold}
use Rattle.ca_text.specs.declared.refusal.Refusal.{Refusal}
use Rattle.ca_text.specs.declared.refusal.Refusal.TheVariants as refusal
use Rattle.ca_text.specs.Limits.{queue_subscriptions}
use Rattle.ca_text.specs.Place.{At}
use Rattle.ca_queue.specs.declared.entry.SubKey.{SubKey}
use Rattle.ca_queue.specs.Keys.{is_among}
use Rattle.ca_queue.specs.Queue.{Queue, added, cancelled, posted, with_front_taken}
use Rattle.ca_queue.specs.Waiting.{taken}

module _ {E : Type 0} where
  -- ---- changes

  -- an entry goes to the queue that has the subscription
  abbrev pub queue_posted : SubKey → E → Queue E → Queue E
  queue_posted key entry q = if is_among key q.subscriptions then posted key entry q else q

  -- a queue without the subscriptions that a test names, and without their entries
  abbrev pub queue_without : (SubKey → Bool) → Queue E → Queue E
  queue_without gone q =
      fold (λ (r : Queue E) (k : SubKey). if gone k then cancelled k r else r) q q.subscriptions

  -- the queues without the subscriptions that a test names, and without their entries
  abbrev pub without_each : (SubKey → Bool) → List (Queue E) → List (Queue E)
  without_each gone queues = map (queue_without gone) queues

  -- ---- where a subscription is

  -- the queue at a place has the subscription
  abbrev pub HasAt : List (Queue E) → ℕ → SubKey → Type 0
  HasAt qs place key = (q : Queue E) × At qs place q × (is_among key q.subscriptions ≡ true)

  -- the entry that has this number from the front of the queue at this place, with its subscription
  abbrev pub entry_in : List (Queue E) → (place index : ℕ) → Option (SubKey × E)
  entry_in qs place index =
      option_and_then (λ (q : Queue E). slice_get q.waiting index) (slice_get qs place)

  -- no queue has it
  abbrev pub HasNone : List (Queue E) → SubKey → Type 0
  HasNone qs key = (i : ℕ) (q : Queue E) → At qs i q → is_among key q.subscriptions ≡ false

  -- none is in two queues
  abbrev pub AreInOne : List (Queue E) → Type 0
  AreInOne qs = (i j : ℕ) (key : SubKey) → HasAt qs i key → HasAt qs j key → i ≡ j

  -- in the queues after this place nothing waits
  abbrev pub AreIdleBehind : (last : ℕ) → List (Queue E) → Type 0
  AreIdleBehind last qs = (i : ℕ) (q : Queue E) → At qs i q → last < i → q.waiting ≡ []

  -- ---- calls

  -- the first queue with room is at this place
  abbrev pub IsFirstWithRoom : List (Queue E) → ℕ → Queue E → Type 0
  IsFirstWithRoom qs place q =
      At qs place q × (length q.subscriptions < queue_subscriptions)
      × ((i : ℕ) (r : Queue E) → i < place → At qs i r
      → queue_subscriptions ≤ length r.subscriptions)

  -- no queue has room
  abbrev pub AreFull : List (Queue E) → Type 0
  AreFull qs = (i : ℕ) (q : Queue E) → At qs i q → queue_subscriptions ≤ length q.subscriptions

  -- A new subscription goes to the first queue with room, and its first entry is this. It is
  -- refused if no queue has room. Memory is asked for only by a queue that has no subscription.
  abbrev pub Begins : List (Queue E) → SubKey → E → Result ℕ Refusal → List (Queue E) → Type 0
  Begins old key entry (Ok place) new =
      (q : Queue E) × IsFirstWithRoom old place q
      × (new ≡ slice_set old place (posted key entry (added key q)))
  Begins old key entry (Err refusal.TooManySubscriptions) new =
      AreFull old × (new ≡ old)
  Begins old key entry (Err refusal.OutOfMemory) new =
      ((place : ℕ) × (q : Queue E) × IsFirstWithRoom old place q × (q.subscriptions ≡ []))
      × (new ≡ old)
  Begins old key entry (Err _) new = ⊥

  -- no queue before this place has an entry that may be taken
  abbrev pub RestBefore : List (Queue E) → ℕ → Type 0
  RestBefore qs place =
      (i : ℕ) (r : Queue E) → i < place → At qs i r → taken r.events_on r.waiting ≡ None

  -- An entry is taken from the first queue that has one that may be taken.
  abbrev pub Takes : List (Queue E) → Option (ℕ × SubKey × E) → List (Queue E) → Type 0
  Takes old None new = RestBefore old (length old) × (new ≡ old)
  Takes old (Some (place, key, entry)) new =
      (q : Queue E) × At old place q × RestBefore old place
      × (taken q.events_on q.waiting ≡ Some (key, entry))
      × (new ≡ slice_set old place (with_front_taken q))
