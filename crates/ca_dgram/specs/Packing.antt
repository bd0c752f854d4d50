-- Statement: datagrams of a server's replies to searches (section "Name Search").
use Rattle.std.specs.Prelude.{ℕ, ◌≡◌, ◌≢◌, ◌<◌, ◌≤◌, ◌+◌, List, [], ◌∷◌, length, map}
use Rattle.std.specs.List.{flat_map}
use Rattle.ca_text.specs.Limits.{datagram_replies}
use Rattle.ca_text.specs.Place.{At}
use Rattle.ca_wire.specs.Fields.{Fields}
use Rattle.ca_wire.specs.Message.{spelled}
use Rattle.ca_wire.specs.Messages.{version_reply}

-- the bytes of a datagram of these replies: one VERSION, and then they
abbrev pub datagram_of : List Fields → List ℕ
datagram_of g = spelled (version_reply ∷ g)

-- The datagrams of these replies, in order: each one VERSION and 42 replies, and
-- the last what is left.
pub record ArePacked (replies : List Fields) (datagrams : List (List ℕ)) : Type 0 where
  pub groups : List (List Fields)
  pub all : flat_map (λ (g : List Fields). g) groups ≡ replies
  pub sizes : (i : ℕ) (g : List Fields) → At groups i g → (g ≢ []) × (length g ≤ datagram_replies)
      × (i + 1 < length groups → length g ≡ datagram_replies)
  pub are : datagrams ≡ map datagram_of groups
