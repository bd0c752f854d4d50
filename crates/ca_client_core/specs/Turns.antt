-- Working: a channel that comes to another phase on its circuit. No clause of a caller needs it.
use Rattle.std.specs.Prelude.{◌≡◌, Some, false, true}
use Rattle.ca_arena.specs.declared.handle.Handle.{Handle}
use Rattle.ca_ids.specs.Table.{Table, under}
use Rattle.ca_model.specs.Client.{Channel, Client, On, Phase}
use Rattle.ca_model.specs.ClientEnds.{is_connecting}
use Rattle.ca_model.specs.Placed.{was_live}

-- The channel is on this circuit, and may come to this phase there: it waits as it did, and if it
-- was live it is still taken for one that was.
pub record TurnsIn (h c : Handle) (next : Phase) (t : Table Channel) : Type 0 where
  pub channel : Channel
  pub there : under t h ≡ Some channel
  pub phase : Phase
  pub stands : channel.standing ≡ On c phase
  pub waits : is_connecting phase ≡ is_connecting next
  pub live : was_live phase ≡ true → was_live next ≡ true

-- a client's channel may
abbrev pub MayTurn : (h c : Handle) → (next : Phase) → Client → Type 0
MayTurn h c next x = TurnsIn h c next x.channels

-- The channel was live on this circuit, and its clear is not answered.
pub record WasLiveAs (h c : Handle) (t : Table Channel) : Type 0 where
  pub channel : Channel
  pub there : under t h ≡ Some channel
  pub phase : Phase
  pub stands : channel.standing ≡ On c phase
  pub waits : is_connecting phase ≡ false
  pub live : was_live phase ≡ true

-- a client's channel was
abbrev pub WasLiveOn : (h c : Handle) → Client → Type 0
WasLiveOn h c x = WasLiveAs h c x.channels
