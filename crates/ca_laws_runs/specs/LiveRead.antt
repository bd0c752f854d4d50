-- Working: SERVER_DISCONNs that clients read, and channels that are live.
use Rattle.std.specs.Prelude.{ℕ, ◌≡◌, ◌<◌, ◌⊎◌, true, List, length}
use Rattle.ca_text.specs.Place.{At}
use Rattle.ca_model.specs.History.{Circuit, Entry, Line, Removal, Removed, Reply, Told}
use Rattle.ca_model.specs.Speech.{Creates, In}
use Rattle.ca_model.specs.Channels.{IsLive, IsNamed, IsOpen, IsUnread, OfCircuits}
use Rattle.ca_model.specs.World.{Joined, World, told}
use Rattle.ca_laws_parts.specs.Sids.{IsClearedWithin}

-- Of each SERVER_DISCONN for a removal that a client read, the client has sent a CLEAR_CHANNEL of
-- the channel that was created there.
abbrev pub AreCleared : Circuit → Type 0
AreCleared c = (q : ℕ) (t : Told) → q < length c.heard → At c.down q t → t.cause ≡ Removal
    → (i sid : ℕ) × (u : Told) × At c.down i u × (u.cause ≡ Reply) × Creates u.message sid
    × (u.place ≡ t.place) × IsClearedWithin c.up sid u.place (length c.up)

-- So it is on each circuit.
abbrev pub AllCleared : World → Type 0
AllCleared w = (n : ℕ) (c : Joined) → At w.circuits n c → AreCleared c.lists

-- A channel that is live at the client is open at the server under its SID, for a record of its
-- name; while the server's end is open, that is there, or a SERVER_DISCONN is unread.
abbrev pub LiveAreThere : World → Type 0
LiveAreThere w = OfCircuits (told w) (λ (n : ℕ) (c : Circuit) (x : List Line) (y : List Entry).
    (channel j k sid : ℕ) → IsLive c channel j k sid → (r : ℕ) × IsOpen c y j k sid r
    × IsNamed x y channel r
    × (c.server_open ≡ true → (In y (Removed r) → ⊥) ⊎ IsUnread c k))
