-- Working: updates that wait beside the queues of an end.
use Rattle.std.specs.Prelude.{ℕ, ◌≡◌, ◌≤◌, ◌==◌, Bool, true, List, [], ◌∷◌, Option, Some}
use Rattle.std.specs.Prelude.{Result, Err, filter, length, map}
use Rattle.std.specs.List.{fold}
use Rattle.ca_text.specs.Place.{At}
use Rattle.ca_text.specs.declared.refusal.Refusal.{Refusal}
use Rattle.ca_text.specs.declared.refusal.Refusal.TheVariants as refusal
use Rattle.ca_queue.specs.declared.entry.SubKey.{SubKey}
use Rattle.ca_queue.specs.Circuit.{Begins, HasAt, Takes, queue_posted}
use Rattle.ca_queue.specs.Keys.{AreApart}
use Rattle.ca_queue.specs.Queue.{Queue}
use Rattle.ca_server_subscriptions.specs.ByRecord.{Receiver}
use Rattle.ca_server_subscriptions.specs.declared.waiting.Addressee.{Addressee}

-- whom an update for this subscription is for
abbrev pub addressee_of : Receiver → Addressee
addressee_of r = record { queue = r.queue; key = r.key }

abbrev pub keys_of : List Addressee → List SubKey
keys_of owed = map (λ (a : Addressee). a.key) owed

-- those of them in the queue at this place
abbrev pub those_in : (place : ℕ) → List Addressee → List Addressee
those_in place owed = filter (λ (a : Addressee). a.queue == place) owed

-- n of this, and no other
abbrev pub AreCopies : {A : Type 0} → ℕ → A → List A → Type 0
AreCopies n x xs = (length xs ≡ n) × ((i : ℕ) (y : _) → At xs i y → y ≡ x)

-- none is in a later queue than one after it
abbrev pub AreInOrder : List Addressee → Type 0
AreInOrder [] = Unit {0}
AreInOrder (a ∷ owed) =
    ((i : ℕ) (b : Addressee) → At owed i b → a.queue ≤ b.queue) × AreInOrder owed

module _ {E : Type 0} where
  -- the queues, after an update for each of these
  abbrev pub with_owed : List Addressee → E → List (Queue E) → List (Queue E)
  with_owed owed v qs =
      fold (λ (rs : List (Queue E)) (a : Addressee). map (queue_posted a.key v) rs) qs owed

  -- in all queues events are on, or in all they are off
  abbrev pub AreSwitched : Bool → List (Queue E) → Type 0
  AreSwitched on qs = (i : ℕ) (q : Queue E) → At qs i q → q.events_on ≡ on

  -- events are on in all queues
  abbrev pub AreOn : List (Queue E) → Type 0
  AreOn qs = AreSwitched true qs

  -- nothing waits in them
  abbrev pub AreEmpty : List (Queue E) → Type 0
  AreEmpty qs = (i : ℕ) (q : Queue E) → At qs i q → q.waiting ≡ []

  -- the queue at a place has the subscription, and no other has it
  abbrev pub HasOnly : List (Queue E) → ℕ → SubKey → Type 0
  HasOnly qs place key = HasAt qs place key × ((i : ℕ) → HasAt qs i key → i ≡ place)

  -- What holds of the queues: whether events are on, whether nothing waits in them, and whom the
  -- update beside them is for.
  pub record IsOwing (on empty : Bool) (owed : List Addressee) (qs : List (Queue E)) : Type 0 where
    pub switched : AreSwitched on qs
    pub quiet : empty ≡ true → AreEmpty qs
    pub only_one : (i : ℕ) (a : Addressee) → At owed i a → (empty ≡ true) × HasOnly qs a.queue a.key
    pub apart : AreApart (keys_of owed)
    pub ordered : AreInOrder owed

  -- A subscription begins as the queues do it; or there is no memory, and all is as it was.
  abbrev pub MayBegin : List (Queue E) → SubKey → E → Result ℕ Refusal → List (Queue E) → Type 0
  MayBegin old key v (Err refusal.OutOfMemory) new = new ≡ old
  MayBegin old key v r new = Begins old key v r new

  -- the entry may be taken next, for this subscription
  abbrev pub IsNext : List (Queue E) → SubKey → E → Type 0
  IsNext qs key v = (place : ℕ) × (new : List (Queue E)) × Takes qs (Some (place, key, v)) new

  -- whatever may be taken next was taken
  abbrev pub LosesNext : List (Queue E) → List (Queue E) → Type 0
  LosesNext old new = (r : Option (ℕ × SubKey × E)) × Takes old r new
