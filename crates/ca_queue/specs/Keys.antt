-- The subscriptions of a queue.
use Rattle.std.specs.Prelude.{◌≡◌, Bool, false, ◌&&◌, nat_eq, List, [], ◌∷◌}
use Rattle.std.specs.List.{list_any}
use Rattle.ca_queue.specs.declared.entry.SubKey.{SubKey}

-- both are one subscription
abbrev pub same : SubKey → SubKey → Bool
same a b = nat_eq a.sid b.sid && nat_eq a.sub b.sub

-- the subscription is one of these
abbrev pub is_among : SubKey → List SubKey → Bool
is_among key keys = list_any (same key) keys

-- none is here twice
abbrev pub AreApart : List SubKey → Type 0
AreApart [] = Unit {0}
AreApart (key ∷ keys) = (is_among key keys ≡ false) × AreApart keys
