-- Working: an update that passes by the queues of an end.
use Rattle.std.specs.Prelude.{ℕ, ◌≡◌, true, List, Some, length}
use Rattle.std.specs.List.{list_any}
use Rattle.ca_queue.specs.Circuit.{RestBefore}
use Rattle.ca_wire.specs.declared.requests.Wanted.{Wanted}
use Rattle.ca_model.specs.Server.{Subscription}
use Rattle.ca_model.specs.Speech.{Stored, share_bit}
use Rattle.ca_server_subscriptions.specs.Pumping.{GivesUpdate}
use Rattle.ca_server_subscriptions.specs.Subscribed.{HasRoom, Subscribed, after_post, is_on}

-- One is on the record of this name, and nothing may be taken. After a post to that record, with
-- this mask, its update for whoever asked so is the next to be taken, and all is then as it was.
pub record PassesBy (name : List ℕ) (mask : ℕ) (w : Wanted) (s : Subscribed) : Type 0 where
  pub on : list_any (is_on name) s.subscriptions ≡ true
  pub rests : RestBefore s.queues (length s.queues)
  pub gives : (v : Stored) → GivesUpdate (after_post name mask v s) (Some (w, v)) s
  pub room : (v : Stored) → HasRoom (after_post name mask v s)

-- the subscription asked so, and this mask is its
abbrev pub IsWantedBy : (mask : ℕ) → Subscription → Wanted → Type 0
IsWantedBy mask s w = (share_bit mask s.mask ≡ true) × (w ≡ s.wanted)
