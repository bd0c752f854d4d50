-- Statement: what a client's log tells of requests and plain writes: parts of what is said of it,
-- as the statement says it of this world.
use Rattle.std.specs.Prelude.{ℕ, ◌≡◌, ◌≢◌, ◌<◌, ◌⊎◌, List, length, true}
use Rattle.ca_dbr.specs.declared.value.Outcome.{Outcome}
use Rattle.ca_dbr.specs.declared.value.Outcome.TheVariants.{Disconnected, Done, Failed}
use Rattle.ca_text.specs.declared.status.Status.{Status}
use Rattle.ca_requests.specs.Meaning.{Means}
use Rattle.ca_text.specs.Place.{At}
use Rattle.ca_model.specs.History.{Circuit, Clear, Create, Intent, Line, Noticed, On, Put, Reply}
use Rattle.ca_model.specs.History.{Request, Sent, Step, Told}
use Rattle.ca_model.specs.History as history
use Rattle.ca_model.specs.Speech.{Creates, In, Stored}
use Rattle.ca_model.specs.Updates.{Shows}
use Rattle.ca_model.specs.Channels.{IsApplied, IsLost, IsRequest, IsUse, OfClients, Stands}
use Rattle.ca_model.specs.Headline.{LosesLive}
use Rattle.ca_model.specs.Known.{IsDue}
use Rattle.ca_model.specs.World.{World, port_of, rules_of, told}
use Rattle.ca_laws_parts.specs.Sids.{IsClearedWithin}
use Rattle.ca_laws_runs.specs.ToldLines.{IsToldOf}

-- Each notice of a read, a put or a plain write that does not tell Disconnected says what the reply
-- to its own message means.
abbrev pub RequestsAreTold : World → Type 0
RequestsAreTold w =
    OfClients (told w)
    (λ (life : ℕ) (x : List Line). (i : ℕ) (intent : Intent) (o : Outcome)
    → At x i (Noticed intent o)
    → IsRequest intent → o ≢ Disconnected → (by : IsToldOf w life x i intent o)
    × (by.t.cause ≡ Reply))

-- A read, a put, a plain write or a subscription has one notice at most.
abbrev pub UsesAreToldOnce : World → Type 0
UsesAreToldOnce w =
    OfClients (told w)
    (λ (life : ℕ) (x : List Line). (i l : ℕ) (intent : Intent) (o p : Outcome) → IsUse intent
    → At x i (Noticed intent o) → At x l (Noticed intent p) → i ≡ l)

-- A put that completed Done was applied.
abbrev pub DoneIsApplied : history.World → Type 0
DoneIsApplied w =
    (life channel number : ℕ) (x : List Line) → At w.clients life x
    → In x (Noticed (On channel (Request Put number)) Done)
    → (n k l i r : ℕ) × (v : Stored) × Stands w life (On channel (Request Put number)) n k
    × IsApplied w n k l i r v

-- A put or a write that was told Failed was not.
abbrev pub FailedIsNot : history.World → Type 0
FailedIsNot w =
    (life n k l i r : ℕ) (intent : Intent) (s : Status) (x : List Line) (v : Stored)
    → At w.clients life x → In x (Noticed intent (Failed s))
    → Stands w life intent n k → IsApplied w n k l i r v → ⊥

-- Each notice says what the reply to its own message means, or Disconnected if that is lost.
abbrev pub NoticesAreTold : World → Type 0
NoticesAreTold w =
    OfClients (told w)
    (λ (life : ℕ) (x : List Line). (i : ℕ) (intent : Intent) (o : Outcome)
    → At x i (Noticed intent o)
    → ((by : IsToldOf w life x i intent o) × (by.t.cause ≡ Reply))
    ⊎ ((o ≡ Disconnected) × IsLost (told w) life x i intent))

-- A reply by which a channel was created was told first of all in the step that read it; or the
-- channel was cleared after it was created.
abbrev pub IsToldLive : history.World → Circuit → (channel : ℕ) → Told → Step → Type 0
IsToldLive w c channel t h =
    ((x : List Line) × At w.clients c.client x × At x h.logged (Noticed (On channel Create) Done)
    × (h.logged < h.after))
    ⊎ ((q : ℕ) × (r : Sent) × (t.place < q) × At c.up q r × (r.intent ≡ On channel Clear))

-- So it is of each of them that the client of this circuit read.
abbrev pub AreToldLive : history.World → Circuit → Type 0
AreToldLive w c =
    (i channel sid : ℕ) (t : Told) (h : Step) (s : Sent) → At c.down i t → At c.heard i h
    → t.cause ≡ Reply → Creates t.message sid
    → At c.up t.place s → s.intent ≡ On channel Create → IsToldLive w c channel t h

-- So it is on each circuit.
abbrev pub CreationsAreTold : history.World → Type 0
CreationsAreTold w = (n : ℕ) (c : Circuit) → At w.circuits n c → AreToldLive w c

-- Each line that tells a channel to be lost tells so of one that was told to be live before, and
-- was not lost or cleared since.
abbrev pub LostWereLive : World → Type 0
LostWereLive w =
    OfClients (told w)
    (λ (life : ℕ) (x : List Line). (i channel : ℕ)
    → At x i (Noticed (On channel Create) Disconnected)
    → LosesLive (IsDue (port_of w) (rules_of w)) Shows Means (told w) life x i channel)

-- While the client's end of a circuit is open, and no CLEAR_CHANNEL was sent under the SID under
-- which a reply that was read created a channel there, no loss of that channel was told since the
-- step that read the reply.
abbrev pub NoneIsLostSince : history.World → Type 0
NoneIsLostSince w =
    (n : ℕ) (c : Circuit) (x : List Line) (i channel sid m : ℕ) (t : Told) (h : Step) (s : Sent)
    → At w.circuits n c → At w.clients c.client x
    → c.client_open ≡ true → At c.down i t → At c.heard i h → t.cause ≡ Reply
    → Creates t.message sid → At c.up t.place s → s.intent ≡ On channel Create
    → (IsClearedWithin c.up sid t.place (length c.up) → ⊥) → h.logged < m
    → At x m (Noticed (On channel Create) Disconnected) → ⊥
