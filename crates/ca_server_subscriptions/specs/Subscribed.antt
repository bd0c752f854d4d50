-- Working: the subscriptions of an end, and the queues that have them.
use Rattle.std.specs.Prelude.{ℕ, ◌≡◌, ◌<◌, ◌≤◌, ◌+◌, ◌*◌, ◌==◌, Bool, true, false, not, List, []}
use Rattle.std.specs.Prelude.{◌∷◌, ◌++◌, Option, Some, None, filter, length, map, replicate}
use Rattle.std.specs.Prelude.{slice_set}
use Rattle.std.specs.List.{fold}
use Rattle.std.specs.Str.{bytes_eq}
use Rattle.ca_text.specs.Limits.{circuit_queues, element_limit, queue_subscriptions}
use Rattle.ca_text.specs.Place.{At}
use Rattle.ca_queue.specs.declared.entry.SubKey.{SubKey}
use Rattle.ca_queue.specs.Circuit.{AreInOne, HasAt, IsFirstWithRoom, queue_posted, without_each}
use Rattle.ca_queue.specs.Keys.{AreApart, is_among}
use Rattle.ca_queue.specs.Queue.{Queue, added, no_queue, posted}
use Rattle.ca_queue.specs.Sound.{IsSound}
use Rattle.ca_wire.specs.declared.requests.Wanted.{Wanted}
use Rattle.ca_model.specs.Server.{Subscription, concerns, key_of}
use Rattle.ca_model.specs.Speech.{Stored}

-- the subscriptions of an end, in the order of their EVENT_ADDs, and its queues
pub record Subscribed : Type 0 where
  pub subscriptions : List Subscription
  pub queues : List (Queue Stored)

-- an update can be made for whoever asked so
pub record IsAskable (w : Wanted) : Type 0 where
  pub typed : w.data_type ≤ 34
  pub few : w.count ≤ element_limit

-- ---- under their keys, each with the place of its queue

abbrev pub Standings : Type 0
Standings = List (SubKey × (Subscription × ℕ))

abbrev pub keys_in : Standings → List SubKey
keys_in es = map (λ (e : SubKey × (Subscription × ℕ)). e.0) es

abbrev pub subscriptions_in : Standings → List Subscription
subscriptions_in es = map (λ (e : SubKey × (Subscription × ℕ)). e.1.0) es

module _ {E : Type 0} where
  -- how many subscriptions the queues have
  abbrev pub total : List (Queue E) → ℕ
  total [] = 0
  total (q ∷ qs) = length q.subscriptions + total qs

-- Each subscription is under its own key, once, and in the queue that it was given; and the
-- queues have no other.
pub record ArePlaced (es : Standings) (qs : List (Queue Stored)) : Type 0 where
  pub keyed : (i : ℕ) (e : SubKey × (Subscription × ℕ)) → At es i e → e.0 ≡ key_of e.1.0
  pub placed : (i : ℕ) (e : SubKey × (Subscription × ℕ)) → At es i e → HasAt qs e.1.1 e.0
  pub apart : AreApart (keys_in es)
  pub known : (i : ℕ) (q : Queue Stored) (key : SubKey) → At qs i q
      → is_among key q.subscriptions ≡ true → is_among key (keys_in es) ≡ true
  pub sound : (i : ℕ) (q : Queue Stored) → At qs i q → IsSound q
  pub one : AreInOne qs
  pub many : total qs ≤ length es
  pub eight : length qs ≡ circuit_queues

-- an update can be made for each of them
abbrev pub AreAskable : Standings → Type 0
AreAskable es = (i : ℕ) (e : SubKey × (Subscription × ℕ)) → At es i e → IsAskable e.1.0.wanted

-- ---- what calls leave

-- no subscription
abbrev pub none_yet : Subscribed
none_yet = record { subscriptions = []; queues = replicate circuit_queues no_queue }

-- the subscription is on the record of this name
abbrev pub is_on : (name : List ℕ) → Subscription → Bool
is_on name s = bytes_eq s.name name

-- a subscription has this key
abbrev pub has_key : SubKey → Subscribed → Bool
has_key key s = is_among key (map key_of s.subscriptions)

-- without the subscriptions that a test names
abbrev pub without_those : (SubKey → Bool) → Subscribed → Subscribed
without_those gone s =
    record {
      subscriptions = filter (λ (x : Subscription). not (gone (key_of x))) s.subscriptions;
      queues = without_each gone s.queues;
    }

-- A new subscription went to the first queue with room, with its first entry.
pub record Joins (s : Subscription) (v : Stored) (old new : Subscribed) : Type 0 where
  pub place : ℕ
  pub q : Queue Stored
  pub first : IsFirstWithRoom old.queues place q
  pub leaves :
      new
      ≡ record {
        subscriptions = old.subscriptions ++ s ∷ [];
        queues = slice_set old.queues place (posted (key_of s) v (added (key_of s) q));
      }

-- the keys that the queues have are those of the subscriptions
abbrev pub AreKnown : Subscribed → Type 0
AreKnown s =
    (i : ℕ) (q : Queue Stored) (key : SubKey) → At s.queues i q
    → is_among key q.subscriptions ≡ true → has_key key s ≡ true

-- a queue has room, unless there are as many subscriptions as there may be
abbrev pub HasRoom : Subscribed → Type 0
HasRoom s =
    length s.subscriptions < circuit_queues * queue_subscriptions
    → (place : ℕ) × (q : Queue Stored) × IsFirstWithRoom s.queues place q

-- the key has this SID
abbrev pub is_of_sid : ℕ → SubKey → Bool
is_of_sid sid key = key.sid == sid

-- One with this SID has this key; or none has the SID.
abbrev pub IsOneOf : (sid : ℕ) → Subscribed → Option SubKey → Type 0
IsOneOf sid s (Some key) = (is_of_sid sid key ≡ true) × (has_key key s ≡ true)
IsOneOf sid s None =
    (i : ℕ) (x : Subscription) → At s.subscriptions i x → is_of_sid sid (key_of x) ≡ false

-- after a post to the record of this name
abbrev pub after_post : (name : List ℕ) → (mask : ℕ) → Stored → Subscribed → Subscribed
after_post name mask v s = record s {
  queues =
      fold
      (λ (qs : List (Queue Stored)) (x : Subscription). map (queue_posted (key_of x) v) qs) s.queues
      (filter (concerns name mask) s.subscriptions);
}
