-- Working: the puts of servers beside the channels on which they came.
use Rattle.std.specs.Prelude.{ℕ, ◌≡◌, ◌<◌, Some, true}
use Rattle.ca_ids.specs.Table.{under}
use Rattle.ca_ids.specs.Wire.{wire_of}
use Rattle.ca_records.specs.declared.puts.Put.{Put}
use Rattle.ca_text.specs.Place.{At}
use Rattle.ca_model.specs.History.{Sent}
use Rattle.ca_model.specs.Server.{OpenChannel, ServerEnd}
use Rattle.ca_model.specs.ServerSteps.{HasEnd}
use Rattle.ca_model.specs.Speech.{In, sid_in}
use Rattle.ca_model.specs.Placed.{WasGiven}
use Rattle.ca_model.specs.World.{Creation, Joined, PutPlace, ServerSide, World}
use Rattle.ca_laws_runs.specs.Pairs.{BusyPair, CoreWaits, SideWaits}

-- The put came on a channel that had been given its handle; if that channel is open still, it was
-- created before the put.
pub record CameOnChannel (e : ServerEnd) (c : Joined) (q : PutPlace) (b : Put) : Type 0 where
  pub given : WasGiven e.channels b.channel
  pub before : (ch : OpenChannel) → under e.channels b.channel ≡ Some ch
      → (x : Creation) × In c.creations x × (x.sid ≡ wire_of b.channel) × (x.place < q.place)

-- A channel is open under the SID in the message at this place, which was created before it.
abbrev pub IsOnChannel : Joined → PutPlace → Type 0
IsOnChannel c q =
    (s : Sent) × At c.lists.up q.place s
    × ((x : Creation) × In c.creations x × (x.sid ≡ sid_in s.message) × (x.place < q.place))

-- Circuit n of this server, and its end: so it is of the puts that came there. Those that wait came
-- on channels that are open.
pub record PutsOn (y : ServerSide) (n : ℕ) (e : ServerEnd) (c : Joined) : Type 0 where
  pub busy : (q : PutPlace) (b : Put) → BusyPair y.core.records y.records q b → q.circuit ≡ n
      → CameOnChannel e c q b
  pub given : (b : Put) → CoreWaits y.core.records b → b.circuit ≡ c.at_server
      → WasGiven e.channels b.channel
  pub waits : (q : PutPlace) → SideWaits y.records q → q.circuit ≡ n → IsOnChannel c q

-- So it is of each open end of a world.
abbrev pub AllPuts : World → Type 0
AllPuts w =
    (n : ℕ) (c : Joined) (y : ServerSide) (e : ServerEnd) → At w.circuits n c
    → At w.servers c.server y → c.lists.server_open ≡ true
    → HasEnd y.core c.at_server e → PutsOn y n e c
