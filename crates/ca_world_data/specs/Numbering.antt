-- Working: posts to a record reach the circuits that they concern, as numbers.
use Rattle.std.specs.Prelude.{ℕ, ◌≡◌, ◌<◌, ◌+◌, Bool, true, List, [], Option, Some, filter, map}
use Rattle.std.specs.Prelude.{option_to_list, slice_get, slice_set, take}
use Rattle.ca_ids.specs.Table.{under}
use Rattle.ca_queue.specs.declared.entry.SubKey.{SubKey}
use Rattle.ca_queue.specs.Keys.{AreApart, is_among}
use Rattle.ca_queue.specs.Queue.{Queue, posted}
use Rattle.ca_text.specs.Place.{At}
use Rattle.ca_model.specs.History.{Cause, Update}
use Rattle.ca_model.specs.Server.{Open, Server, ServerCircuit, ServerEnd, concerns, key_of}
use Rattle.ca_model.specs.World.{Joined, Standing}
use Rattle.ca_world_data.specs.declared.history.Cause.{Cause as Written}
use Rattle.ca_world_data.specs.declared.joined.Joined.{Joined as Opened}
use Rattle.ca_world_data.specs.declared.joined.AddedSubscription.{
  AddedSubscription as
      AddedSubscription,
}

-- ---- an end beside its circuit

-- the keys of the subscriptions that are on a circuit
abbrev pub keys_on : Joined → List SubKey
keys_on j = map (λ (s : Standing). s.key) j.standing

-- those that each queue has
abbrev pub keys_within : {E : Type 0} → List (Queue E) → List (List SubKey)
keys_within queues = map (λ (q : Queue _). q.subscriptions) queues

-- The same subscriptions are at an open end and on its circuit, each once, in the same queues.
pub record AreAlike (e : ServerEnd) (j : Joined) : Type 0 where
  pub keys : map key_of e.subscriptions ≡ keys_on j
  pub apart : AreApart (keys_on j)
  pub queues : keys_within j.queues ≡ keys_within e.queues

-- the same of what is under a handle, if it is open
abbrev pub IsAlike : Option ServerCircuit → Joined → Type 0
IsAlike (Some (Open e)) j = AreAlike e j
IsAlike c j = Unit {0}

-- so is each circuit that is open at server i
abbrev pub AllAlike : (i : ℕ) → Server → List Joined → Type 0
AllAlike i core ks =
    (k : ℕ) (j : Joined) → At ks k j → j.server ≡ i → j.lists.server_open ≡ true
    → IsAlike (under core.circuits j.at_server) j

-- ---- counts

-- one more post than these may be counted
abbrev pub post_limit : ℕ
post_limit = 18446744073709551615

abbrev pub MayCount : List AddedSubscription → Type 0
MayCount ss = (p : ℕ) (s : AddedSubscription) → At ss p s → s.posts < post_limit

abbrev pub AllMayCount : List Opened → Type 0
AllMayCount ks = (k : ℕ) (j : Opened) → At ks k j → MayCount j.standing.items

-- ---- one by one

-- the keys of the subscriptions that a post concerns, among the first p of an end
abbrev pub keys_to : (name : List ℕ) → (mask : ℕ) → (p : ℕ) → Option ServerCircuit → List SubKey
keys_to name mask p (Some (Open e)) =
    map key_of (filter (concerns name mask) (take p e.subscriptions))
keys_to name mask p c = []

-- the key of the one at place p, if the post concerns it
abbrev pub keys_at : (name : List ℕ) → (mask : ℕ) → (p : ℕ) → Option ServerCircuit → List SubKey
keys_at name mask p (Some (Open e)) =
    map key_of (filter (concerns name mask) (option_to_list (slice_get e.subscriptions p)))
keys_at name mask p c = []

-- a subscription is at this place, whose key the queue at that place has, and one
-- more post may be counted
pub record IsPlaced (p n : ℕ) (j : Joined) : Type 0 where
  pub s : Standing
  pub at : At j.standing p s
  pub q : Queue (ℕ × Cause)
  pub in_it : At j.queues n q
  pub among : is_among s.key q.subscriptions ≡ true
  pub few : s.posts < post_limit

-- the circuit with one more post counted there, whose number waits
abbrev pub with_counted : {p n : ℕ} {j : Joined} → IsPlaced p n j → Joined
with_counted {p} {n} {j} h = record j {
  standing = slice_set j.standing p (record h.s { posts = h.s.posts + 1 });
  queues = slice_set j.queues n (posted h.s.key (h.s.place, Update h.s.posts) h.q);
}

-- the queue at this place has this subscription
abbrev pub HasKeyAt : List (Queue (ℕ × Written) × Bool) → ℕ → SubKey → Type 0
HasKeyAt queues n key =
    (q : Queue (ℕ × Written) × Bool) × At queues n q × (is_among key q.0.subscriptions ≡ true)
