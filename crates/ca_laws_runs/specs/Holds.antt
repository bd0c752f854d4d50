-- Working: what holds of an open end's queues and of its circuit's numbers, by the posts that
-- each subscription sees.
use Rattle.std.specs.Prelude.{ℕ, ◌≡◌, ◌<◌, ◌==◌, true, false, List, [], Option, Some, None}
use Rattle.std.specs.Prelude.{filter_map, if◌then◌else◌, length, map, slice_get, unwrap_or}
use Rattle.ca_queue.specs.declared.entry.SubKey.{SubKey}
use Rattle.ca_queue.specs.Images.{queue_images}
use Rattle.ca_queue.specs.Keys.{AreApart, is_among}
use Rattle.ca_queue.specs.Queue.{Queue}
use Rattle.ca_queue.specs.Waiting.{entries_of}
use Rattle.ca_text.specs.Place.{At}
use Rattle.ca_model.specs.History.{Cause, Told, Update}
use Rattle.ca_model.specs.Server.{Subscription, key_of}
use Rattle.ca_model.specs.Speech.{Stored}
use Rattle.ca_model.specs.Updates.{ShowsTo}
use Rattle.ca_model.specs.World.{Joined, Standing}
use Rattle.ca_laws_parts.specs.InStep.{Numbered, keys_standing, number_in, value_in}
use Rattle.ca_laws_parts.specs.Rising.{Rising}
use Rattle.ca_laws_parts.specs.Both.{Both}

-- ---- numbers

-- the number of an update
abbrev pub number_of : Cause → Option ℕ
number_of (Update number) = Some number
number_of cause = None

-- the number that a message carries, if it is an update of the EVENT_ADD at this place
abbrev pub number_for : (place : ℕ) → Told → Option ℕ
number_for place t = if t.place == place then number_of t.cause else None

-- the numbers of the updates of the EVENT_ADD at this place, of those that were sent
abbrev pub sent_numbers : (place : ℕ) → List Told → List ℕ
sent_numbers place down = filter_map (number_for place) down

-- the post of this number, or another if there is none
abbrev pub post_at : Stored → List Stored → ℕ → Stored
post_at other posts n = unwrap_or (slice_get posts n) other

-- as the update of this number waits: the post, the place of the EVENT_ADD and the number
abbrev pub stamp_of : Stored → List Stored → (place : ℕ) → ℕ → Numbered
stamp_of other posts place n = record { value = post_at other posts n; place = place; number = n }

-- ---- one subscription

-- One queue has the subscription: what waits there under its key are numbers that rise after
-- those that were sent.
pub record Home (both : List (Queue Numbered)) (key : SubKey) (stamp : ℕ → Numbered) (gone : List ℕ)
    (next : ℕ) : Type 0 where
  pub home : ℕ
  pub q : Queue Numbered
  pub at : At both home q
  pub has : is_among key q.subscriptions ≡ true
  pub rising : Rising stamp key gone next q
  pub elsewhere : (i : ℕ) (x : Queue Numbered) → At both i x → is_among key x.subscriptions ≡ true
      → i ≡ home

-- The server counts the posts that a subscription sees. Those that were sent show their posts.
pub record Counts (posts : Subscription → ℕ → List Stored) (down : List Told)
    (both : List (Queue Numbered)) (sub : Subscription) (st : Standing) : Type 0 where
  pub key : key_of sub ≡ st.key
  pub other : Stored
  pub counts : st.posts ≡ length (posts sub st.place)
  pub numbers : Home both st.key (stamp_of other (posts sub st.place) st.place)
      (sent_numbers st.place down) st.posts
  pub shows : (j a : ℕ) (t : Told) → At down j t → t.place ≡ st.place → t.cause ≡ Update a
      → (v : Stored) × At (posts sub st.place) a v × ShowsTo sub.wanted v t.message

-- ---- an end

-- So it is of each subscription that stands, of which each has its own key and place. Values and
-- numbers wait in step, and each for a subscription that stands. The EVENT_ADDs of those that
-- stand, and of updates that were sent, were handled.
pub record Holds (posts : Subscription → ℕ → List Stored) (subs : List Subscription)
    (values : List (Queue Stored)) (c : Joined) : Type 0 where
  pub both : List (Queue Numbered)
  pub values_are : values ≡ map (queue_images value_in) both
  pub numbers_are : c.queues ≡ map (queue_images number_in) both
  pub each : Both (Counts posts c.lists.down both) subs c.standing
  pub apart : AreApart (keys_standing c)
  pub lone : (i j : ℕ) (s t : Standing) → At c.standing i s → At c.standing j t → s.place ≡ t.place
      → i ≡ j
  pub seats : (i : ℕ) (x : Queue Numbered) (key : SubKey) → At both i x
      → is_among key x.subscriptions ≡ true → is_among key (keys_standing c) ≡ true
  pub tidy : (i : ℕ) (x : Queue Numbered) (key : SubKey) → At both i x
      → is_among key x.subscriptions ≡ false → entries_of key x.waiting ≡ []
  pub stood : (i : ℕ) (st : Standing) → At c.standing i st → st.place < length c.lists.handled
  pub early : (j a : ℕ) (t : Told) → At c.lists.down j t → t.cause ≡ Update a
      → t.place < length c.lists.handled
