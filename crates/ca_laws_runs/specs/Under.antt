-- Working: under which SID a client's messages go on a circuit.
use Rattle.std.specs.Prelude.{ℕ, ◌≡◌, ◌<◌}
use Rattle.ca_text.specs.Place.{At}
use Rattle.ca_model.specs.History.{Ask, Cancel, Circuit, Clear, Create, On, Reply, Sent, Subscribe}
use Rattle.ca_model.specs.History.{Told}
use Rattle.ca_model.specs.Speech.{Creates, sid_in}
use Rattle.ca_model.specs.World.{Joined, World}
use Rattle.ca_laws_parts.specs.Sids.{IsClearedWithin}

-- to read, to write, to subscribe or to cancel
abbrev pub IsUse : Ask → Type 0
IsUse Create = ⊥
IsUse Clear = ⊥
IsUse ask = Unit {0}

-- Before place p the CREATE_CHAN at place k is the last that was sent on the channel of this
-- number, and the channel was not cleared since. The message at place j answered it with this SID.
pub record IsCreatedBefore (c : Circuit) (channel j k sid p : ℕ) : Type 0 where
  pub t : Told
  pub r : Sent
  pub told : At c.down j t × (t.place ≡ k) × (t.cause ≡ Reply) × Creates t.message sid
  pub asked : At c.up k r × (r.intent ≡ On channel Create)
  pub early : k < p
  pub since : (l : ℕ) (q : Sent) (ask : Ask) → k < l → l < p → At c.up l q
      → q.intent ≡ On channel ask → IsUse ask

-- Each message on a channel, but its CREATE_CHAN, goes under the SID under which that was
-- created last before it.
abbrev pub AreUnder : Circuit → Type 0
AreUnder c =
    (p channel : ℕ) (s : Sent) (ask : Ask) → At c.up p s → s.intent ≡ On channel ask
    → (ask ≡ Create → ⊥)
    → (j k : ℕ) × IsCreatedBefore c channel j k (sid_in s.message) p

-- So it is on each circuit.
abbrev pub AllUnder : World → Type 0
AllUnder w = (n : ℕ) (c : Joined) → At w.circuits n c → AreUnder c.lists

-- Before a channel is created again under a new CREATE_CHAN on the circuit, the client cleared the
-- SID under which it was created before.
abbrev pub AreClearedBetween : Circuit → Type 0
AreClearedBetween c =
    (p k channel i sid : ℕ) (r q : Sent) (t : Told) → p < k → At c.up p r → At c.up k q
    → r.intent ≡ On channel Create
    → q.intent ≡ On channel Create → At c.down i t → t.place ≡ p → t.cause ≡ Reply
    → Creates t.message sid → IsClearedWithin c.up sid p k

-- An EVENT_CANCEL has the subscription id of its EVENT_ADD.
abbrev pub AreSubIds : Circuit → Type 0
AreSubIds c =
    (p q a b number : ℕ) (r s : Sent) → At c.up p r → At c.up q s
    → r.intent ≡ On a (Subscribe number) → s.intent ≡ On b (Cancel number)
    → r.message.p2 ≡ s.message.p2

-- What is to be known of a client's messages on each circuit, by its lists.
pub record SaysRight (c : Circuit) : Type 0 where
  pub under : AreUnder c
  pub between : AreClearedBetween c
  pub subs : AreSubIds c

abbrev pub AllSayRight : World → Type 0
AllSayRight w = (n : ℕ) (c : Joined) → At w.circuits n c → SaysRight c.lists
