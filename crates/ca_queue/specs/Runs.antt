-- Whole runs of a queue. Refused calls are left out, since they change nothing.
use Rattle.std.specs.Prelude.{◌≡◌, ◌<◌, Bool, true, false, if◌then◌else◌, List, [], ◌∷◌, ◌++◌}
use Rattle.std.specs.Prelude.{length, Option, Some, None}
use Rattle.ca_text.specs.Limits.{queue_subscriptions}
use Rattle.ca_queue.specs.declared.entry.SubKey.{SubKey}
use Rattle.ca_queue.specs.Keys.{same, is_among}
use Rattle.ca_queue.specs.Waiting.{is_of, taken}
use Rattle.ca_queue.specs.Queue.{Queue, added, posted, with_front_taken, cancelled, switched}
use Rattle.ca_queue.specs.Order.{Sub, last_of}

-- a subscription was added, an entry was posted to it, a take gave this, a subscription was
-- cancelled, or events were turned on or off
pub data Call (E : Type 0) : Type 0 where
  Added : SubKey → Call E
  Posted : SubKey → E → Call E
  Took : Option (SubKey × E) → Call E
  Cancelled : SubKey → Call E
  Switched : Bool → Call E

module _ {E : Type 0} where
  -- these calls in a row lead from old to new
  abbrev pub Leads : Queue E → List (Call E) → Queue E → Type 0
  Leads old [] new = new ≡ old
  Leads old (Added key ∷ calls) new =
      (is_among key old.subscriptions ≡ false) × (length old.subscriptions < queue_subscriptions)
      × Leads (added key old) calls new
  Leads old (Posted key entry ∷ calls) new =
      (is_among key old.subscriptions ≡ true) × Leads (posted key entry old) calls new
  Leads old (Took given ∷ calls) new =
      (given ≡ taken old.events_on old.waiting) × Leads (with_front_taken old) calls new
  Leads old (Cancelled key ∷ calls) new = Leads (cancelled key old) calls new
  Leads old (Switched on ∷ calls) new = Leads (switched on old) calls new

  -- what was posted to a subscription, in order: this before these calls, and again
  -- from its last cancel on
  abbrev pub posts_to : SubKey → List E → List (Call E) → List E
  posts_to key before [] = before
  posts_to key before (Added k ∷ calls) = posts_to key before calls
  posts_to key before (Posted k entry ∷ calls) =
      posts_to key (if same key k then before ++ entry ∷ [] else before) calls
  posts_to key before (Took given ∷ calls) = posts_to key before calls
  posts_to key before (Cancelled k ∷ calls) = posts_to key (if same key k then [] else before) calls
  posts_to key before (Switched on ∷ calls) = posts_to key before calls

  -- what a take that gave this adds to what was taken of a subscription
  abbrev pub taken_with : SubKey → List E → Option (SubKey × E) → List E
  taken_with key before None = before
  taken_with key before (Some w) = if is_of key w then before ++ w.1 ∷ [] else before

  -- what was taken of it, in order, in the same way
  abbrev pub taken_of : SubKey → List E → List (Call E) → List E
  taken_of key before [] = before
  taken_of key before (Added k ∷ calls) = taken_of key before calls
  taken_of key before (Posted k entry ∷ calls) = taken_of key before calls
  taken_of key before (Took given ∷ calls) = taken_of key (taken_with key before given) calls
  taken_of key before (Cancelled k ∷ calls) = taken_of key (if same key k then [] else before) calls
  taken_of key before (Switched on ∷ calls) = taken_of key before calls

  -- what was seen is what was posted with some items left out, and ends in the newest
  pub record Follows (seen posts : List E) : Type 0 where
    pub in_order : Sub seen posts
    pub newest : last_of seen ≡ last_of posts
