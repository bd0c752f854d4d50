-- Statement: what the subscriber of one EVENT_ADD saw, with what is in flight and queued.
use Rattle.std.specs.Prelude.{ℕ, ◌≡◌, ◌==◌, ◌++◌, Bool, true, false, List, ◌∷◌, Some, filter}
use Rattle.std.specs.Prelude.{filter_map, if◌then◌else◌, drop, length, take}
use Rattle.ca_text.specs.Place.{At}
use Rattle.ca_queue.specs.Order.{last_of}
use Rattle.ca_wire.specs.Messages.{mask_in}
use Rattle.ca_model.specs.Speech.{Stored, share_bit}
use Rattle.ca_model.specs.History.{Cause, Update, Circuit, Entry, Line, Sent, Step, Told}
use Rattle.ca_model.specs.Updates.{Shows}
use Rattle.ca_model.specs.Channels.{Lasts}
use Rattle.ca_model.specs.Causes.{Accepted}
use Rattle.ca_model.specs.Posts.{matching, post_in}
use Rattle.ca_laws_parts.specs.Subsequence.{IsSubsequence}

-- the cause is an update
abbrev pub is_update : Cause → Bool
is_update (Update number) = true
is_update cause = false

-- this is an update of the EVENT_ADD at place k
abbrev pub is_update_of : (k : ℕ) → ℕ × Cause → Bool
is_update_of k u = if u.0 == k then is_update u.1 else false

-- the updates of the EVENT_ADD at place k, of those that were sent
abbrev pub updates_of : (k : ℕ) → List Told → List Told
updates_of k down = filter (λ (t : Told). is_update_of k (t.place, t.cause)) down

-- What the updates of the EVENT_ADD s show, those that were sent and then those that are queued, is
-- a subsequence of its record's posts: first the value that the record had when the EVENT_ADD was
-- handled, and then each write and post that shares a bit with its mask. While the subscription
-- lasts it ends in the newest post. So too for those that were read so far: they are the beginning
-- of those that were sent.
pub record SeesPosts (c : Circuit) (y : List Entry) (k r : ℕ) (s : Sent) (h : Step) : Type 0 where
  pub sent : List Stored
  pub queued : List Stored
  pub each : length sent ≡ length (updates_of k c.down)
  pub shows : (i : ℕ) (t : Told) (v : Stored) → At (updates_of k c.down) i t → At sent i v
      → Shows s.message v t.message
  pub wait : length queued ≡ length (filter (is_update_of k) c.queued)
  pub posts : List Stored
  pub are : posts ≡ matching y h.logged r (mask_in s.message)
  pub first : Stored
  pub was : last_of (filter_map (post_in r (λ bits. true)) (take h.logged y)) ≡ Some first
  pub begins : posts ≡ first ∷ filter_map (post_in r (share_bit (mask_in s.message)))
      (drop h.logged y)
  pub part : IsSubsequence (sent ++ queued) posts
  pub read : (n : ℕ) → IsSubsequence (take n sent) posts
  pub newest : Lasts c y k r s → last_of (sent ++ queued) ≡ last_of posts

-- So it is for each accepted EVENT_ADD of a circuit.
abbrev pub SeeParts : ℕ → Circuit → List Line → List Entry → Type 0
SeeParts n c x y = (k r : ℕ) (s : Sent) (h : Step) → Accepted c y k r s h → SeesPosts c y k r s h
