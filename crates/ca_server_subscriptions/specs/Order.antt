-- Working: the order of the subscriptions of an end, which is that of their EVENT_ADDs.
use Rattle.std.specs.Prelude.{ℕ, Bool, take}
use Rattle.ca_queue.specs.declared.entry.SubKey.{SubKey}
use Rattle.ca_queue.specs.Keys.{is_among}
use Rattle.ca_server_subscriptions.specs.Subscribed.{Standings, keys_in}

-- the subscription of this key is among those before this place
abbrev pub is_before : Standings → (place : ℕ) → SubKey → Bool
is_before es place key = is_among key (keys_in (take place es))
