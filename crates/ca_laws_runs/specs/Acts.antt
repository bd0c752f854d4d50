-- Working: parts of the statement's clause of what servers act on, each of every circuit of a world
-- with the logs of the lives that it joins.
use Rattle.std.specs.Prelude.{ℕ, ◌≡◌, ◌<◌, List, length}
use Rattle.ca_text.specs.Place.{At}
use Rattle.ca_model.specs.History.{Ask, Circuit, Create, Entry, Line, On, Opened, Reply, Told}
use Rattle.ca_model.specs.Speech.{Creates}
use Rattle.ca_model.specs.Channels.{Created, IsLive, IsNamed, IsOpen, Meant, OfCircuits, OfClients}
use Rattle.ca_model.specs.Causes.{Acted}
use Rattle.ca_model.specs.World.{World, told}

-- Each reply that creates a channel created it for a record that the server had then under the
-- name in the CREATE_CHAN.
abbrev pub CreationsAre : World → Type 0
CreationsAre w = OfCircuits (told w) (λ (n : ℕ) (c : Circuit) (x : List Line) (y : List Entry).
    (j sid : ℕ) (t : Told) → At c.down j t → t.cause ≡ Reply → Creates t.message sid → (r : ℕ)
    × Created c y j t.place sid r)

-- Each message on a channel that was handled was handled on the record that the channel names.
abbrev pub ActsAre : World → Type 0
ActsAre w = OfCircuits (told w) (λ (n : ℕ) (c : Circuit) (x : List Line) (y : List Entry).
    (k channel : ℕ) (ask : Ask) → k < length c.handled → Meant c k (On channel ask)
    → (ask ≡ Create → ⊥)
    → (r : ℕ) × Acted c y k r × IsNamed x y channel r)

-- A channel that is live at the client is open at the server under its SID, for
-- a record of its name.
abbrev pub LiveAreOpen : World → Type 0
LiveAreOpen w = OfCircuits (told w) (λ (n : ℕ) (c : Circuit) (x : List Line) (y : List Entry).
    (channel j k sid : ℕ) → IsLive c channel j k sid → (r : ℕ) × IsOpen c y j k sid r
    × IsNamed x y channel r)

-- A channel is opened once.
abbrev pub OpenOnce : World → Type 0
OpenOnce w = OfClients (told w) (λ (life : ℕ) (x : List Line).
    (i j channel : ℕ) (a b : List ℕ) → At x i (Opened channel a) → At x j (Opened channel b)
    → i ≡ j)
