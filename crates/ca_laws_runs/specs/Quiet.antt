-- Working: what a client's core and names have of one circuit, beside what the client sent there.
use Rattle.std.specs.Prelude.{ℕ, ◌≡◌, ◌<◌, ◌⊎◌, true, List, Some}
use Rattle.ca_arena.specs.declared.handle.Handle.{Handle}
use Rattle.ca_ids.specs.Table.{under}
use Rattle.ca_ids.specs.Wire.{wire_of}
use Rattle.ca_monitor.specs.Subscriptions.{Cancelled, Ended, Stage, Stands, Subscription}
use Rattle.ca_requests.specs.Requests.{Request}
use Rattle.ca_text.specs.Place.{At}
use Rattle.ca_model.specs.Client.{Channel, Clearing, Client, Connecting, Creating, Doomed, Leaving}
use Rattle.ca_model.specs.Client.{Live, Phase, Standing}
use Rattle.ca_model.specs.Client as standing
use Rattle.ca_model.specs.History.{Ask, Cancel, Clear, Create, Intent, Kind, On, Put, Read, Sent}
use Rattle.ca_model.specs.History.{Subscribe, Write}
use Rattle.ca_model.specs.History as history
use Rattle.ca_model.specs.Placed.{WasGiven}
use Rattle.ca_model.specs.ClientEvents.{channel_number, meant_by}
use Rattle.ca_model.specs.World.{ClientSide, Joined, Names, World}
use Rattle.ca_laws_parts.specs.Circuit.{AreNumbered}

-- ---- what was sent on one circuit

-- At place k the client asked this on the channel of this number.
abbrev pub IsAskedAt : List Sent → (k number : ℕ) → Ask → Type 0
IsAskedAt up k number ask = (s : Sent) × At up k s × (s.intent ≡ On number ask)

-- to read, to write, to subscribe or to cancel
abbrev pub IsOfUse : Ask → Type 0
IsOfUse Create = ⊥
IsOfUse Clear = ⊥
IsOfUse ask = Unit {0}

-- After place k nothing was sent on the channel; it was only used; it was only used, but
-- for what is at place q.
abbrev pub NoneAfter : List Sent → (k number : ℕ) → Type 0
NoneAfter up k number =
    (l : ℕ) (r : Sent) (ask : Ask) → k < l → At up l r → r.intent ≡ On number ask → ⊥

abbrev pub UsedAfter : List Sent → (k number : ℕ) → Type 0
UsedAfter up k number =
    (l : ℕ) (r : Sent) (ask : Ask) → k < l → At up l r → r.intent ≡ On number ask → IsOfUse ask

abbrev pub UsedBut : List Sent → (k q number : ℕ) → Type 0
UsedBut up k q number =
    (l : ℕ) (r : Sent) (ask : Ask) → k < l → At up l r → r.intent ≡ On number ask → (l ≡ q)
    ⊎ IsOfUse ask

-- The channel's last CREATE_CHAN is the last that was sent on it; or it was cleared since, and its
-- CLEAR_CHANNEL is the last.
abbrev pub IsBeingCreated : List Sent → (number : ℕ) → Type 0
IsBeingCreated up number = (k : ℕ) × IsAskedAt up k number Create × NoneAfter up k number

abbrev pub IsBeingCleared : List Sent → (number : ℕ) → Type 0
IsBeingCleared up number =
    (k q : ℕ) × IsAskedAt up k number Create × IsAskedAt up q number Clear × NoneAfter up q number
    × UsedBut up k q number

-- A channel in this phase on the circuit: what was sent on it.
abbrev pub PhaseIn : List Sent → (number : ℕ) → Phase → Type 0
PhaseIn up number Connecting = Unit {0}
PhaseIn up number (Creating rights) = IsBeingCreated up number
PhaseIn up number Doomed = IsBeingCreated up number
PhaseIn up number (Live n rights) = (k : ℕ) × IsAskedAt up k number Create × UsedAfter up k number
PhaseIn up number Leaving = IsBeingCleared up number
PhaseIn up number Clearing = IsBeingCleared up number

-- so it is if it is on the circuit of this handle
abbrev pub StandsIn : (on : Handle) → List Sent → (number : ℕ) → Standing → Type 0
StandsIn on up number s = (p : Phase) → s ≡ standing.On on p → PhaseIn up number p

-- No EVENT_CANCEL of the subscription was sent; or one was, and nothing else about the
-- subscription after it.
abbrev pub NoCancel : List Sent → (number : ℕ) → Type 0
NoCancel up number = (p a : ℕ) (r : Sent) → At up p r → r.intent ≡ On a (Cancel number) → ⊥

abbrev pub IsBeingCancelled : List Sent → (number : ℕ) → Type 0
IsBeingCancelled up number =
    (k b : ℕ) × IsAskedAt up k b (Cancel number)
    × ((p a : ℕ) (r : Sent) → At up p r → r.intent ≡ On a (Subscribe number) → p < k)
    × ((p a : ℕ) (r : Sent) → At up p r → r.intent ≡ On a (Cancel number) → p ≡ k)

-- A subscription at this stage: what was sent about it on the circuit of this handle.
abbrev pub StageIn : (on : Handle) → List Sent → (number : ℕ) → Stage → Type 0
StageIn on up number Stands = NoCancel up number
StageIn on up number (Cancelled c) = c ≡ on → IsBeingCancelled up number
StageIn on up number (Ended c) = Unit {0}

-- ---- names

-- the channel has its number
abbrev pub HasNumber : Names → Handle → Type 0
HasNumber n h = At n.channels (channel_number n h) h

-- It is meant to make a request on the channel of this handle; to subscribe on it.
abbrev pub IsRequestOn : Names → Handle → Intent → Type 0
IsRequestOn n h intent =
    (kind : Kind) × (number : ℕ) × HasNumber n h
    × (intent ≡ On (channel_number n h) (history.Request kind number))

abbrev pub IsSubscriptionOn : Names → Handle → Intent → Type 0
IsSubscriptionOn n h intent =
    (number : ℕ) × HasNumber n h × (intent ≡ On (channel_number n h) (Subscribe number))

-- a request that the client keeps until it is answered: a read, or a put with notification
abbrev pub IsAnswered : Kind → Type 0
IsAnswered Read = Unit {0}
IsAnswered Put = Unit {0}
IsAnswered Write = ⊥

-- Each channel has one number, and its table gave its handle. Requests and subscriptions are
-- numbered in order, each on the channel that the core has for it; no plain write is among them.
pub record Tidy (n : Names) (x : Client) : Type 0 where
  pub numbered : AreNumbered n x
  pub given : (i : ℕ) (h : Handle) → At n.channels i h → WasGiven x.channels h
  pub once : (i : ℕ) (h : Handle) → At n.channels i h → channel_number n h ≡ i
  pub asked : (i : ℕ) (e : Handle × Intent) → At n.requests i e → (a : ℕ) × (kind : Kind)
      × (e.1 ≡ On a (history.Request kind i)) × IsAnswered kind
  pub subscribed : (i : ℕ) (e : Handle × Intent) → At n.subscriptions i e → (a : ℕ)
      × (e.1 ≡ On a (Subscribe i))
  pub requests : (q : Handle) (r : Request) → under x.requests q ≡ Some r
      → IsRequestOn n r.channel (meant_by n.requests q)
  pub subscriptions : (g : Handle) (d : Subscription) → under x.subscriptions g ≡ Some d
      → IsSubscriptionOn n d.channel (meant_by n.subscriptions g)

-- What was meant by a message is named: a read or a put, and a subscription that
-- is made or cancelled.
abbrev pub IsNamedIn : Names → Intent → Type 0
IsNamedIn n (On a (history.Request Read number)) =
    (q : Handle) × At n.requests number (q, On a (history.Request Read number))
IsNamedIn n (On a (history.Request Put number)) =
    (q : Handle) × At n.requests number (q, On a (history.Request Put number))
IsNamedIn n (On a (Subscribe number)) =
    (g : Handle) × At n.subscriptions number (g, On a (Subscribe number))
IsNamedIn n (On a (Cancel number)) =
    (g : Handle) × At n.subscriptions number (g, On a (Subscribe number))
IsNamedIn n intent = Unit {0}

-- A message about a subscription has the id of the handle that its number names.
abbrev pub HasSubId : Names → Sent → Type 0
HasSubId n s =
    (a number : ℕ) → (s.intent ≡ On a (Subscribe number)) ⊎ (s.intent ≡ On a (Cancel number))
    → (g : Handle) × (e : Intent) × At n.subscriptions number (g, e) × (s.message.p2 ≡ wire_of g)

-- An EVENT_CANCEL has the subscription id of its EVENT_ADD.
abbrev pub AreSubIds : List Sent → Type 0
AreSubIds up =
    (p q a b number : ℕ) (r s : Sent) → At up p r → At up q s → r.intent ≡ On a (Subscribe number)
    → s.intent ≡ On b (Cancel number)
    → r.message.p2 ≡ s.message.p2

-- A CREATE_CHAN and a CLEAR_CHANNEL have the CID of the handle that their channel's number names.
abbrev pub HasCid : List Handle → Sent → Type 0
HasCid channels s =
    (a : ℕ) → (s.intent ≡ On a Create → (h : Handle) × At channels a h × (s.message.p1 ≡ wire_of h))
    × (s.intent ≡ On a Clear → (h : Handle) × At channels a h × (s.message.p2 ≡ wire_of h))

abbrev pub HaveCids : List Handle → List Sent → Type 0
HaveCids channels up = (p : ℕ) (s : Sent) → At up p s → HasCid channels s

-- A CLEAR_CHANNEL has the CID of its channel's CREATE_CHANs.
abbrev pub AreCids : List Sent → Type 0
AreCids up =
    (p q a : ℕ) (r s : Sent) → At up p r → At up q s → r.intent ≡ On a Create
    → s.intent ≡ On a Clear → r.message.p1 ≡ s.message.p2

-- Between two EVENT_ADDs of one subscription its channel was created again.
abbrev pub AreAddedApart : List Sent → Type 0
AreAddedApart up =
    (k l a number : ℕ) (r s : Sent) → k < l → At up k r → At up l s
    → r.intent ≡ On a (Subscribe number) → s.intent ≡ On a (Subscribe number)
    → (p : ℕ) × (q : Sent) × (k < p) × (p < l) × At up p q × (q.intent ≡ On a Create)

-- ---- a circuit

-- What was sent on the circuit of this handle was named, and is as the client's channels and
-- subscriptions there are.
pub record Quiet (n : Names) (x : Client) (on : Handle) (up : List Sent) : Type 0 where
  pub named : (p : ℕ) (s : Sent) → At up p s → IsNamedIn n s.intent
  pub ids : (p : ℕ) (s : Sent) → At up p s → HasSubId n s
  pub channels : (h : Handle) (ch : Channel) → under x.channels h ≡ Some ch
      → StandsIn on up (channel_number n h) ch.standing
  pub subscriptions : (g : Handle) (d : Subscription) (a number : ℕ)
      → under x.subscriptions g ≡ Some d → meant_by n.subscriptions g ≡ On a (Subscribe number)
      → StageIn on up number d.stage

-- So it is of all clients of a world, and of their circuits whose ends are open. On all circuits
-- ids of subscriptions and of channels stay right, and EVENT_ADDs of one subscription apart.
pub record ClientsQuiet (w : World) : Type 0 where
  pub tidy : (i : ℕ) (x : ClientSide) → At w.clients i x → Tidy x.names x.core
  pub quiet : (k : ℕ) (j : Joined) (x : ClientSide) → At w.circuits k j → At w.clients j.client x
      → j.lists.client_open ≡ true
      → Quiet x.names x.core j.at_client j.lists.up
  pub ids : (k : ℕ) (j : Joined) → At w.circuits k j → AreSubIds j.lists.up
  pub apart : (k : ℕ) (j : Joined) → At w.circuits k j → AreAddedApart j.lists.up
  pub named : (k : ℕ) (j : Joined) (x : ClientSide) → At w.circuits k j → At w.clients j.client x
      → j.lists.client_open ≡ true
      → HaveCids x.names.channels j.lists.up
  pub cids : (k : ℕ) (j : Joined) → At w.circuits k j → AreCids j.lists.up
