-- Statement: what one end of a circuit may send, said by what it sent and what it read alone.
use Rattle.std.specs.Prelude.{ℕ, ◌≡◌, ◌≢◌, ◌<◌, ◌≤◌, ◌+◌, ◌%◌, ◌++◌, ◌⊎◌, List, []}
use Rattle.ca_text.specs.declared.command.Command.TheVariants as command
use Rattle.ca_text.specs.Limits.{arena_slots}
use Rattle.ca_text.specs.Place.{At}
use Rattle.ca_wire.specs.declared.header.Header.{Header}
use Rattle.ca_wire.specs.Fields.{Fields}
use Rattle.ca_wire.specs.Header.{HeaderSpells}
use Rattle.ca_model.specs.Speech.{Id, Cid, Ioid, SubId, Clears, Creates, Gives, Is, sid_in}

-- What one end did on a circuit: the messages that it sent; those that came; and for each of these
-- that it read, how many it had sent before.
pub record Conduct : Type 0 where
  pub sent : List Fields
  pub came : List Fields
  pub read : List ℕ

-- Message m came at place j, and the end read it after it had sent message i and
-- before it sent message k.
abbrev pub ReadsBetween : Conduct → (i k j : ℕ) → Fields → Type 0
ReadsBetween e i k j m = (b : ℕ) × At e.came j m × At e.read j b × (i < b) × (b ≤ k)

-- ---- a client

-- a message that goes on a channel, under its SID
abbrev pub IsOnChannel : Fields → Type 0
IsOnChannel m =
    Is command.ReadNotify m
    ⊎ (Is command.WriteNotify m
    ⊎ (Is command.Write m ⊎ (Is command.EventAdd m ⊎ (Is command.EventCancel m
    ⊎ Is command.ClearChannel m))))

-- When the client sends message k it has a channel with this CID and SID: it asked for it at place
-- i, it read the reply at place j, and has sent no CLEAR_CHANNEL of it since.
abbrev pub HasChannel : Conduct → (k i j cid sid : ℕ) → Type 0
HasChannel e k i j cid sid =
    (s m : Fields) × At e.sent i s × Gives s (Cid cid) × ReadsBetween e i k j m × Creates m sid
    × (m.p1 ≡ cid)
    × ((l : ℕ) (r : Fields) → i < l → l < k → At e.sent l r → Clears r sid → r.p2 ≢ cid)

-- a SERVER_DISCONN for this CID
abbrev pub IsDisconnect : ℕ → Fields → Type 0
IsDisconnect cid m = Is command.ServerDisconnect m × (m.p1 ≡ cid)

-- An ERROR quotes the complete header of this request: its command and its id.
abbrev pub Quotes : Fields → Fields → Type 0
Quotes request m =
    Is command.Error m
    × ((h : Header) × (head text : List ℕ) × HeaderSpells head h × (m.payload ≡ head ++ text)
    × (h.command ≡ request.command) × (h.p2 ≡ request.p2))

-- No EVENT_CANCEL for the EVENT_ADD at place l was among the first b messages.
abbrev pub IsUncancelled : Conduct → (l b : ℕ) → Fields → Type 0
IsUncancelled e l b add =
    (i : ℕ) (s : Fields) → l < i → i < b → At e.sent i s → Is command.EventCancel s → s.p1 ≡ add.p1
    → s.p2 ≢ add.p2

-- Between its message at place l and the first b the client sent the CLEAR_CHANNEL of this CID.
abbrev pub HasCleared : Conduct → (l b cid : ℕ) → Type 0
HasCleared e l b cid =
    (i : ℕ) × (s : Fields) × (l < i) × (i < b) × At e.sent i s × Is command.ClearChannel s
    × (s.p2 ≡ cid)

-- After b messages, message m frees the id that the request at place l gave. A CID: CREATE_CH_FAIL,
-- or the reply to its CLEAR_CHANNEL. An IOID: the reply or an ERROR. A subscription id: the
-- confirmation if it was cancelled, or an ERROR if it was not. And each of a channel: the reply
-- to the channel's CLEAR_CHANNEL.
abbrev pub Frees : Conduct → (l b : ℕ) → (request m : Fields) → Type 0
Frees e l b request m =
    (Is command.CreateChannel request
    × ((Is command.CreateChannelFail m × (m.p1 ≡ request.p1))
    ⊎ (Is command.ClearChannel m × (m.p2 ≡ request.p1) × HasCleared e l b request.p1)))
    ⊎ (((Is command.ReadNotify request ⊎ Is command.WriteNotify request)
    × (((m.command ≡ request.command) × (m.p2 ≡ request.p2)) ⊎ Quotes request m))
    ⊎ ((Is command.EventAdd request
    × ((Is command.EventAdd m × (m.payload ≡ []) × (m.p2 ≡ request.p2)
    × (IsUncancelled e l b request → ⊥))
    ⊎ (Quotes request m × IsUncancelled e l b request)))
    ⊎ ((i j cid : ℕ) × HasChannel e l i j cid (sid_in request) × Is command.ClearChannel m
    × (m.p2 ≡ cid) × HasCleared e l b cid)))

-- Before the client sent message k it read a message that freed the id that its
-- message at place l gave.
abbrev pub IsFree : Conduct → (l k : ℕ) → Type 0
IsFree e l k =
    (j b : ℕ) × (request m : Fields) × At e.sent l request × At e.came j m × At e.read j b × (l < b)
    × (b ≤ k)
    × Frees e l b request m

-- Two ids of one kind have one index.
abbrev pub SameIndex : Id → Id → Type 0
SameIndex (Cid a) (Cid b) = a % arena_slots ≡ b % arena_slots
SameIndex (Ioid a) (Ioid b) = a % arena_slots ≡ b % arena_slots
SameIndex (SubId a) (SubId b) = a % arena_slots ≡ b % arena_slots
SameIndex a b = ⊥

-- What a client sends on a circuit. A message on a channel goes out under the SID of one that it
-- has; after a SERVER_DISCONN for it was read, only its CLEAR_CHANNEL does. An EVENT_CANCEL is for
-- an EVENT_ADD on that channel that was not cancelled. And an id is given only if each id of its
-- index that the client gave before is free again.
pub record LegalClient (e : Conduct) : Type 0 where
  pub on_channel : (k : ℕ) (m : Fields) → At e.sent k m → IsOnChannel m
      → (i j cid : ℕ) × HasChannel e k i j cid (sid_in m)
      × ((Is command.ClearChannel m × (m.p2 ≡ cid))
      ⊎ ((Is command.ClearChannel m → ⊥)
      × ((l : ℕ) (r : Fields) → j < l → ReadsBetween e i k l r → IsDisconnect cid r
      → ⊥)))
  pub cancels : (k : ℕ) (m : Fields) → At e.sent k m → Is command.EventCancel m
      → (l : ℕ) × (add : Fields) × At e.sent l add × Is command.EventAdd add × (l < k)
      × (add.p1 ≡ m.p1)
      × (add.p2 ≡ m.p2) × IsUncancelled e l k add
  pub ids : (l k : ℕ) (r m : Fields) (a b : Id) → l < k → At e.sent l r → At e.sent k m → Gives r a
      → Gives m b
      → SameIndex a b → IsFree e l k

-- ---- a server

-- When the server sends message k, the channel that it created by its message at place i, with this
-- CID and SID, is open: it has read no CLEAR_CHANNEL of it since.
abbrev pub IsOpenAt : Conduct → (k i cid sid : ℕ) → Type 0
IsOpenAt e k i cid sid =
    (m : Fields) × At e.sent i m × Creates m sid × (m.p1 ≡ cid) × (i < k)
    × ((j : ℕ) (r : Fields) → ReadsBetween e i k j r → Clears r sid → ⊥)

-- It has sent no SERVER_DISCONN for this CID between its messages i and k.
abbrev pub IsConnected : Conduct → (i k cid : ℕ) → Type 0
IsConnected e i k cid =
    (l : ℕ) (m : Fields) → i < l → l < k → At e.sent l m → IsDisconnect cid m → ⊥

-- The request that was read at place j was refused: an ERROR that quotes it was sent before the
-- next message was read.
abbrev pub IsRefused : Conduct → (j : ℕ) → Fields → Type 0
IsRefused e j request =
    (b l : ℕ) × (m : Fields) × At e.read j b × At e.sent l m × (b ≤ l) × Quotes request m
    × ((c : ℕ) → At e.read (j + 1) c → l < c)

-- What a server sends on a circuit. A SID is given only if no open channel has its index. An update
-- is for an EVENT_ADD that was read on a channel that is open, and neither was its record removed
-- nor the subscription cancelled or refused. A confirmation answers the EVENT_CANCEL that was read
-- just before. Each open channel has one SERVER_DISCONN at most.
pub record LegalServer (e : Conduct) : Type 0 where
  pub sids : (i k a b : ℕ) (m r : Fields) → i < k → At e.sent i m → At e.sent k r → Creates m a
      → Creates r b
      → a % arena_slots ≡ b % arena_slots → (j : ℕ) × (c : Fields) × ReadsBetween e i k j c
      × Clears c a
  pub updates : (k : ℕ) (m : Fields) → At e.sent k m → Is command.EventAdd m → m.payload ≢ []
      → (i j cid : ℕ) × (add : Fields) × IsOpenAt e k i cid (sid_in add) × IsConnected e i k cid
      × ReadsBetween e i k j add × Gives add (SubId m.p2)
      × ((l : ℕ) (r : Fields) → j < l → ReadsBetween e i k l r → Is command.EventCancel r
      → r.p1 ≡ add.p1
      → r.p2 ≢ add.p2)
      × (IsRefused e j add → ⊥)
  pub confirmations : (k : ℕ) (m : Fields) → At e.sent k m → Is command.EventAdd m → m.payload ≡ []
      → (j : ℕ) × (r : Fields) × At e.came j r × At e.read j k × Is command.EventCancel r
      × (r.p1 ≡ m.p1)
      × (r.p2 ≡ m.p2)
  pub disconnects : (k : ℕ) (m : Fields) → At e.sent k m → Is command.ServerDisconnect m
      → (i sid : ℕ) × IsOpenAt e k i m.p1 sid × IsConnected e i k m.p1
