-- Working: the open channels of an end whose SIDs are retired: their records were removed, and
-- their SERVER_DISCONNs sent.
use Rattle.std.specs.Prelude.{ℕ, ◌≡◌, ◌≤◌, true, List, Some, length, take}
use Rattle.ca_arena.specs.declared.handle.Handle.{Handle}
use Rattle.ca_ids.specs.Table.{under}
use Rattle.ca_ids.specs.Wire.{wire_of}
use Rattle.ca_text.specs.Place.{At}
use Rattle.ca_model.specs.History.{Entry, Removal, Removed, Sent, Step, Told}
use Rattle.ca_model.specs.Server.{OpenChannel, ServerEnd}
use Rattle.ca_model.specs.ServerSteps.{HasEnd}
use Rattle.ca_model.specs.Speech.{In, name_in}
use Rattle.ca_model.specs.Channels.{Has}
use Rattle.ca_model.specs.World.{Creation, Joined, ServerSide, World}

-- The channel was created by a CREATE_CHAN that was handled. The record that had its name then was
-- removed, and its SERVER_DISCONN was sent.
pub record IsGone (log : List Entry) (c : Joined) (sid : ℕ) (ch : OpenChannel) : Type 0 where
  pub x : Creation
  pub noted : In c.creations x
  pub under_sid : x.sid ≡ sid
  pub s : Sent
  pub sent : At c.lists.up x.place s
  pub h : Step
  pub handled : At c.lists.handled x.place h
  pub name : ch.name ≡ name_in s.message
  pub within : h.logged ≤ length log
  pub gone : (r : ℕ) → Has (take h.logged log) r ch.name → In log (Removed r)
  pub t : Told
  pub told : In c.lists.down t × (t.place ≡ x.place) × (t.cause ≡ Removal)

-- So it is of each channel of an end that is retired.
abbrev pub GoneOn : List Entry → ServerEnd → Joined → Type 0
GoneOn log e c =
    (g : Handle) (ch : OpenChannel) → under e.channels g ≡ Some ch → ch.retired ≡ true
    → IsGone log c (wire_of g) ch

-- And of each open end of a world.
abbrev pub AllGone : World → Type 0
AllGone w =
    (n : ℕ) (c : Joined) (y : ServerSide) (e : ServerEnd) (log : List Entry) → At w.circuits n c
    → At w.servers c.server y
    → c.lists.server_open ≡ true → HasEnd y.core c.at_server e → At w.server_logs y.life log
    → GoneOn log e c
