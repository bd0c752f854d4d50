-- Working: the open channels of a server's end beside the creations of its circuit.
use Rattle.std.specs.Prelude.{ℕ, ◌≡◌, ◌≤◌, ◌==◌, Bool, Some, find, length, true}
use Rattle.ca_arena.specs.declared.handle.Handle.{Handle}
use Rattle.ca_ids.specs.Table.{under}
use Rattle.ca_ids.specs.Wire.{wire_of}
use Rattle.ca_text.specs.Limits.{arena_slots}
use Rattle.ca_text.specs.Place.{At}
use Rattle.ca_model.specs.History.{Sent}
use Rattle.ca_model.specs.Server.{OpenChannel, ServerEnd}
use Rattle.ca_model.specs.ServerSteps.{HasEnd}
use Rattle.ca_model.specs.Speech.{In}
use Rattle.ca_model.specs.World.{Creation, Joined, ServerSide, World}

-- a channel was created under this SID
abbrev pub has_sid : ℕ → Creation → Bool
has_sid sid c = c.sid == sid

-- Each open channel of the end was created on its circuit under its SID, by a CREATE_CHAN with its
-- CID; and each that is noted so is open.
pub record ChannelsOn (e : ServerEnd) (c : Joined) : Type 0 where
  pub few : length e.channels ≤ arena_slots
  pub opens : (h : Handle) (ch : OpenChannel) → under e.channels h ≡ Some ch
      → (x : Creation) × (find (has_sid (wire_of h)) c.creations ≡ Some x)
      × ((s : Sent) × At c.lists.up x.place s × (s.message.p1 ≡ ch.cid))
  pub stale : (x : Creation) → In c.creations x → (h : Handle) × (ch : OpenChannel)
      × (under e.channels h ≡ Some ch) × (wire_of h ≡ x.sid)

-- So it is of each open end of a world.
abbrev pub AllChannels : World → Type 0
AllChannels w =
    (n : ℕ) (c : Joined) (y : ServerSide) (e : ServerEnd) → At w.circuits n c
    → At w.servers c.server y → c.lists.server_open ≡ true
    → HasEnd y.core c.at_server e → ChannelsOn e c
