-- Working: the creations that are noted on a circuit beside the replies by which they were made.
use Rattle.std.specs.Prelude.{ℕ, ◌≡◌, ◌<◌, ◌≤◌, length, true}
use Rattle.ca_text.specs.Place.{At}
use Rattle.ca_model.specs.History.{Reply, Sent, Told}
use Rattle.ca_model.specs.Server.{ServerEnd}
use Rattle.ca_model.specs.ServerSteps.{HasEnd}
use Rattle.ca_model.specs.Speech.{Clears, Creates, In}
use Rattle.ca_model.specs.World.{Creation, Joined, ServerSide, World}

-- Each channel that is open on a circuit was created by a reply about its CREATE_CHAN, no
-- CLEAR_CHANNEL of its SID was handled since, and no other is open under that SID.
pub record CreationsOn (c : Joined) : Type 0 where
  pub within : length c.lists.handled ≤ length c.lists.up
  pub told : (x : Creation) → In c.creations x
      → (i : ℕ) × (t : Told) × At c.lists.down i t × (t.place ≡ x.place) × (t.cause ≡ Reply)
      × Creates t.message x.sid
  pub uncleared : (x : Creation) (l : ℕ) (r : Sent) → In c.creations x → x.place < l
      → l < length c.lists.handled → At c.lists.up l r
      → Clears r.message x.sid → ⊥
  pub one : (x z : Creation) → In c.creations x → In c.creations z → x.sid ≡ z.sid → x ≡ z

-- So it is of each open end of a world.
abbrev pub AllCreations : World → Type 0
AllCreations w =
    (n : ℕ) (c : Joined) (y : ServerSide) (e : ServerEnd) → At w.circuits n c
    → At w.servers c.server y → c.lists.server_open ≡ true
    → HasEnd y.core c.at_server e → CreationsOn c
