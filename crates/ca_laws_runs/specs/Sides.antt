-- Working: what a client has of one circuit, beside the replies by which its
-- channels were created there.
use Rattle.std.specs.Prelude.{ℕ, ◌≡◌, ◌<◌, ◌⊎◌, true, Some, length}
use Rattle.ca_arena.specs.declared.handle.Handle.{Handle}
use Rattle.ca_ids.specs.Table.{Table, under}
use Rattle.ca_text.specs.Place.{At}
use Rattle.ca_model.specs.Client.{Channel, Client, Live, Native, On}
use Rattle.ca_model.specs.History.{Circuit, Create, Reply, Sent, Told}
use Rattle.ca_model.specs.History as history
use Rattle.ca_model.specs.Speech.{Creates, sid_in}
use Rattle.ca_model.specs.ClientEvents.{channel_number}
use Rattle.ca_model.specs.World.{ClientSide, Joined, Names, World}
use Rattle.ca_laws_parts.specs.Sids.{IsClearedWithin}
use Rattle.ca_laws_runs.specs.Under.{AreClearedBetween, AreUnder, IsCreatedBefore}

-- The channel of this handle is live on this circuit, under this SID.
pub record IsLiveAs (t : Table Channel) (on : Handle) (h : Handle) (sid : ℕ) : Type 0 where
  pub ch : Channel
  pub native : Native
  pub rights : ℕ
  pub there : under t h ≡ Some ch
  pub stands : ch.standing ≡ On on (Live native rights)
  pub is : native.sid ≡ sid

-- A live channel was created last by a reply that the client read, under the SID that the client
-- has for it. Each channel that was created by a reply that the client read is live so, or was
-- cleared under that SID since.
pub record Sides (n : Names) (x : Client) (on : Handle) (c : Circuit) : Type 0 where
  pub lives : (h : Handle) (sid : ℕ) → IsLiveAs x.channels on h sid
      → (j k : ℕ) × (j < length c.heard)
      × IsCreatedBefore c (channel_number n h) j k sid (length c.up)
  pub answered : (i sid a : ℕ) (t : Told) (r : Sent) → i < length c.heard → At c.down i t
      → t.cause ≡ Reply
      → Creates t.message sid → At c.up t.place r → r.intent ≡ history.On a Create
      → IsClearedWithin c.up sid t.place (length c.up)
      ⊎ ((h : Handle) × (channel_number n h ≡ a) × IsLiveAs x.channels on h sid)

-- Before a channel is created again on a circuit, its last CREATE_CHAN was handled.
abbrev pub AreInTurn : Circuit → Type 0
AreInTurn c =
    (p k a : ℕ) (r q : Sent) → p < k → At c.up p r → At c.up k q → r.intent ≡ history.On a Create
    → q.intent ≡ history.On a Create → p < length c.handled

-- So it goes under the SID of a channel of whose creation the client read.
abbrev pub AreRead : Circuit → Type 0
AreRead c =
    (p channel : ℕ) (s : Sent) (ask : history.Ask) → At c.up p s → s.intent ≡ history.On channel ask
    → (ask ≡ Create → ⊥)
    → (j k : ℕ) × (j < length c.heard) × IsCreatedBefore c channel j k (sid_in s.message) p

-- What a client said on a circuit, by its lists.
pub record Right (c : Circuit) : Type 0 where
  pub under : AreUnder c
  pub read : AreRead c
  pub between : AreClearedBetween c
  pub turn : AreInTurn c

-- So it is on all circuits of a world, and of those whose ends at clients are open.
pub record AllSided (w : World) : Type 0 where
  pub sides : (k : ℕ) (j : Joined) (x : ClientSide) → At w.circuits k j → At w.clients j.client x
      → j.lists.client_open ≡ true → Sides x.names x.core j.at_client j.lists
  pub right : (k : ℕ) (j : Joined) → At w.circuits k j → Right j.lists
