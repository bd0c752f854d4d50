-- Statement: of a subscription that is on a live channel: what was sent last about it, and what its
-- client's log has of it.
use Rattle.std.specs.Prelude.{ℕ, ◌≡◌, ◌<◌, true, List, Some}
use Rattle.ca_arena.specs.declared.handle.Handle.{Handle}
use Rattle.ca_dbr.specs.declared.value.Outcome.{Outcome}
use Rattle.ca_ids.specs.Table.{under}
use Rattle.ca_monitor.specs.Subscriptions.{Subscription, stands_in}
use Rattle.ca_text.specs.Place.{At}
use Rattle.ca_model.specs.History.{Create, Line, Noticed, On, Sent, Subscribe}
use Rattle.ca_model.specs.Speech.{In}
use Rattle.ca_model.specs.Channels.{IsHeld}
use Rattle.ca_model.specs.ClientEvents.{meant_by}
use Rattle.ca_model.specs.World.{ClientSide, Joined, World}
use Rattle.ca_laws_runs.specs.Sides.{IsLiveAs}

-- The EVENT_ADD of the subscription of this number was sent, and since then no
-- CREATE_CHAN of its channel.
abbrev pub IsAddedSince : List Sent → (channel number : ℕ) → Type 0
IsAddedSince up channel number =
    (l : ℕ) × (r : Sent) × At up l r × (r.intent ≡ On channel (Subscribe number))
    × ((p : ℕ) (q : Sent) → l < p → At up p q → q.intent ≡ On channel Create → ⊥)

-- So it is of each subscription that is in its client's table, on each open circuit on which
-- its channel is live.
abbrev pub SubscriptionsAreAddedAnew : World → Type 0
SubscriptionsAreAddedAnew w =
    (k sid : ℕ) (j : Joined) (x : ClientSide) (g : Handle) (d : Subscription) → At w.circuits k j
    → At w.clients j.client x → j.lists.client_open ≡ true → under x.core.subscriptions g ≡ Some d
    → stands_in d.stage ≡ true
    → IsLiveAs x.core.channels j.at_client d.channel sid
    → (a m : ℕ) × (meant_by x.names.subscriptions g ≡ On a (Subscribe m))
    × IsAddedSince j.lists.up a m

-- A subscription that is in its client's table, on a channel that is live, is held by the log of
-- that client's life: its caller ended neither it nor its channel, and no notice told of its end.
abbrev pub LiveSubscriptionsAreHeld : World → Type 0
LiveSubscriptionsAreHeld w =
    (i sid : ℕ) (x : ClientSide) (log : List Line) (g on : Handle) (d : Subscription)
    → At w.clients i x
    → At w.client_logs x.life log → under x.core.subscriptions g ≡ Some d → stands_in d.stage ≡ true
    → IsLiveAs x.core.channels on d.channel sid
    → (a m : ℕ) × (meant_by x.names.subscriptions g ≡ On a (Subscribe m))
    × IsHeld log (On a (Subscribe m))
    × ((o : Outcome) → In log (Noticed (On a (Subscribe m)) o) → ⊥)
