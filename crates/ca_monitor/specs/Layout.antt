-- Working: which subscriptions end at once, and what is done to each place. No clause
-- of a caller needs it.
use Rattle.std.specs.Prelude.{ℕ, ◌==◌, ◌&&◌, Bool, false, Option, Some, None}
use Rattle.ca_arena.specs.declared.handle.Handle.{Handle}
use Rattle.ca_arena.specs.Arena.{Place}
use Rattle.ca_ids.specs.Table.{kept_of}
use Rattle.ca_monitor.specs.declared.drops.SubscriptionsMeant.{SubscriptionsMeant}
use Rattle.ca_monitor.specs.declared.drops.SubscriptionsMeant.TheVariants as which
use Rattle.ca_monitor.specs.Subscriptions.{Subscription, drains_in, is_to, stands_in}

-- the subscriptions that are meant
abbrev pub named : SubscriptionsMeant → Subscription → Bool
named (which.ToChannel channel) = is_to channel
named (which.DrainingTo circuit channel) =
    λ (s : Subscription). is_to channel s && drains_in circuit s.stage

-- a place whose id is free if it drains on this circuit
abbrev pub place_freed : Handle → Place Subscription → Place Subscription
place_freed circuit p =
    record p { value = kept_of (λ (s : Subscription). drains_in circuit s.stage) p.value }

-- a subscription to this channel stands
abbrev pub is_standing_to : Handle → Handle × Subscription → Bool
is_standing_to channel e = is_to channel e.1 && stands_in e.1.stage

-- a subscription is listed by the index of its channel
abbrev pub owner_of : Subscription → Option ℕ
owner_of s = Some s.channel.index

-- it is to a channel of this index
abbrev pub is_of : ℕ → Option Subscription → Bool
is_of o None = false
is_of o (Some s) = s.channel.index == o
