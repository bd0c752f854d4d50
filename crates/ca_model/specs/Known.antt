-- Statement: what a server knew when it handled a message, read off the lists; and with that,
-- when a world is safe.
use Rattle.std.specs.Prelude.{ℕ, ◌≡◌, ◌<◌, ◌≤◌, ◌%◌, ◌==◌, ◌&&◌, ◌++◌, ◌⊎◌, Bool, true, false, not}
use Rattle.std.specs.Prelude.{List, [], ◌∷◌, count_by}
use Rattle.std.specs.Prelude.{Option, Some, None, filter, filter_map, if◌then◌else◌, length, take}
use Rattle.std.specs.List.{fold, list_any}
use Rattle.ca_text.specs.Command.{command_number}
use Rattle.ca_text.specs.declared.command.Command.{Command}
use Rattle.ca_text.specs.declared.command.Command.TheVariants as command
use Rattle.ca_text.specs.Limits.{arena_slots, last_generation}
use Rattle.ca_text.specs.Place.{At}
use Rattle.ca_queue.specs.declared.entry.SubKey.{SubKey}
use Rattle.ca_queue.specs.Order.{last_of}
use Rattle.ca_records.specs.Record.{RecordState}
use Rattle.ca_records.specs.Rules.{Rule}
use Rattle.ca_wire.specs.Fields.{Fields}
use Rattle.ca_wire.specs.Messages.{text_in}
use Rattle.ca_model.specs.Due.{Action, Applies, Clears, Due, KnownChannel, KnownRecord, Knows}
use Rattle.ca_model.specs.Due.{late_reply}
use Rattle.ca_model.specs.Due as action
use Rattle.ca_model.specs.Speech.{In, Is, IsWritten, Stored, name_in, sid_in}
use Rattle.ca_model.specs.History.{Sent, Told, Step, Circuit, Entry, Added, Removed, Waits, Applied}
use Rattle.ca_model.specs.History.{Finished}
use Rattle.ca_model.specs.History.{Withdrawn, World}
use Rattle.ca_model.specs.Updates.{Shows}
use Rattle.ca_model.specs.Channels.{Has, IsOpen, Lasts}
use Rattle.ca_model.specs.Posts.{post_in}
use Rattle.ca_model.specs.Headline.{Safe}
use Rattle.ca_model.specs.Causes.{Accepted}
use Rattle.ca_requests.specs.Meaning.{Means}

-- ---- records, as the log says

-- both are one place of one circuit
abbrev pub same_place : ℕ × ℕ → ℕ × ℕ → Bool
same_place p q = p.0 == q.0 && p.1 == q.1

-- the puts that wait for record r, by circuit and place, after one more entry
abbrev pub waiting_after : (r : ℕ) → List (ℕ × ℕ) → Entry → List (ℕ × ℕ)
waiting_after r ps (Waits n k i v) = if i == r then ps ++ (n, k) ∷ [] else ps
waiting_after r ps (Applied n k i v busies) = filter (λ (p : ℕ × ℕ). not (same_place p (n, k))) ps
waiting_after r ps (Withdrawn n k) = filter (λ (p : ℕ × ℕ). not (same_place p (n, k))) ps
waiting_after r ps entry = ps

-- the puts that wait for record r
abbrev pub waiting : List Entry → (r : ℕ) → List (ℕ × ℕ)
waiting y r = fold (waiting_after r) [] y

-- A put made record r busy, and was not finished since.
abbrev pub IsBusy : List Entry → (r : ℕ) → Type 0
IsBusy y r = (n k : ℕ) × (v : Stored) × In y (Applied n k r v true) × (In y (Finished n k) → ⊥)

-- Record r as it is: as it was added, with the value of its last post; whether it is busy,
-- and how many puts wait.
pub record IsNow (y : List Entry) (r : ℕ) (known : KnownRecord) : Type 0 where
  pub first : RecordState
  pub added : In y (Added r first)
  pub v : Stored
  pub last : last_of (filter_map (post_in r (λ bits. true)) y) ≡ Some v
  pub state : known.state ≡ record first { value = v.value; meta = v.meta }
  pub busy : (known.busy ≡ true → IsBusy y r) × (IsBusy y r → known.busy ≡ true)
  pub waits : known.waits ≡ length (waiting y r)

-- What the log says of a name: the record that has it, or that none has.
abbrev pub IsRecordOf : List Entry → (name : List ℕ) → Option KnownRecord → Type 0
IsRecordOf y name (Some known) = (r : ℕ) × Has y r name × IsNow y r known
IsRecordOf y name None = (r : ℕ) → Has y r name → ⊥

-- ---- the peer

-- a channel was created by these messages
abbrev pub has_created : List Told → Bool
has_created down =
    list_any (λ (t : Told). t.message.command == command_number command.CreateChannel) down

-- The message at place k was handled before a channel was created.
abbrev pub IsEarly : Circuit → (k : ℕ) → Fields → Type 0
IsEarly c k m = (s : Sent) × (h : Step) × At c.up k s × At c.handled k h × (s.message ≡ m)
    × (has_created (take h.sent c.down) ≡ false)

-- The text of the last CLIENT_NAME, or HOST_NAME, that was early; the empty text if there was none.
abbrev pub NamesItself : Circuit → Command → List ℕ → Type 0
NamesItself c name text =
    ((k : ℕ) × (m : Fields) × IsEarly c k m × Is name m × (text ≡ text_in m.payload)
    × ((l : ℕ) (r : Fields) → k < l → IsEarly c l r → Is name r → ⊥))
    ⊎ ((text ≡ []) × ((k : ℕ) (m : Fields) → IsEarly c k m → Is name m → ⊥))

-- ---- channels and subscriptions

-- The channel is one that is open: its ids and its name, and whether its record was removed.
abbrev pub IsChannel : Circuit → List Entry → KnownChannel → Type 0
IsChannel c y channel =
    (j k r : ℕ) × (s : Sent) × IsOpen c y j k channel.sid r × At c.up k s
    × (channel.cid ≡ s.message.p1)
    × (channel.name ≡ name_in s.message)
    × (channel.retired ≡ true → In y (Removed r)) × (In y (Removed r) → channel.retired ≡ true)

-- The key is that of a subscription that lasts.
abbrev pub IsKey : Circuit → List Entry → SubKey → Type 0
IsKey c y key =
    (k r : ℕ) × (s : Sent) × (h : Step) × Accepted c y k r s h × Lasts c y k r s
    × (key.sid ≡ s.message.p1)
    × (key.sub ≡ s.message.p2)

-- What is in a list is just what is so, each once.
pub record AreJust {A : Type 0} (xs : List A) (IsSo : A → Type 0) : Type 0 where
  pub each : (x : A) → In xs x → IsSo x
  pub all : (x : A) → IsSo x → In xs x
  pub once : (i j : ℕ) (x : A) → At xs i x → At xs j x → i ≡ j

-- a channel was created under a SID of this index
abbrev pub creates_at : (index : ℕ) → Told → Bool
creates_at index t =
    t.message.command == command_number command.CreateChannel && t.message.p2 % arena_slots == index

-- No SID may be given: each index is an open channel's, or was given as often as
-- there are generations.
abbrev pub IsFull : Circuit → Knows → Type 0
IsFull c k =
    (i : ℕ) → i < arena_slots
    → ((channel : KnownChannel) × In k.channels channel × (channel.sid % arena_slots ≡ i))
    ⊎ (last_generation ≤ count_by (creates_at i) c.down)

-- What a server on this port, with these rules, knows on a circuit whose messages it handled, all
-- of them, and by its log.
pub record Knew (port : ℕ) (rules : List Rule) (c : Circuit) (y : List Entry)
    (k : Knows) : Type 0 where
  pub on_port : k.port ≡ port
  pub by_rules : k.rules ≡ rules
  pub records : (name : List ℕ) → IsRecordOf y name (k.record_of name)
  pub greeted : k.greeted ≡ list_any
      (λ (s : Sent). s.message.command == command_number command.Version) c.up
  pub user : NamesItself c command.ClientName k.peer.user
  pub host : NamesItself c command.HostName k.peer.host
  pub settled : k.settled ≡ has_created c.down
  pub channels : AreJust k.channels (IsChannel c y)
  pub full : k.full ≡ true → IsFull c k
  pub keys : AreJust k.keys (IsKey c y)

-- ---- what is logged

-- This put of the circuit waits, on the channel under this SID, and the entry withdraws it.
abbrev pub IsWithdrawal : (n : ℕ) → Circuit → List Entry → (sid : ℕ) → Entry → Type 0
IsWithdrawal n c y sid e =
    (k r : ℕ) × (s : Sent) × In (waiting y r) (n, k) × At c.up k s × (sid_in s.message ≡ sid)
    × (e ≡ Withdrawn n k)

-- The write at place k is logged, as a write stores it.
abbrev pub IsLogged : (n k : ℕ) → List Entry → Action → List Entry → Type 0
IsLogged n k y (Applies name value busies) logs =
    (r : ℕ) × (v : Stored) × Has y r name × (v.value ≡ value)
    × IsWritten v × (logs ≡ Applied n k r v busies ∷ [])
IsLogged n k y (action.Waits name value) logs =
    (r : ℕ) × (v : Stored) × Has y r name × (v.value ≡ value)
    × IsWritten v × (logs ≡ Waits n k r v ∷ [])
IsLogged n k y did logs = logs ≡ []

-- What is logged for what a message does: its write, or the withdrawals of the puts that wait on
-- the channel that it clears.
abbrev pub Logs : (n : ℕ) → Circuit → List Entry → Action → List Entry → Type 0
Logs n c y (Clears sid) logs = AreJust logs (IsWithdrawal n c y sid)
Logs n c y did logs = IsLogged n (length c.handled) y did logs

-- ---- the whole

-- The ports and the rules of the servers, life by life.
module _ (ports : ℕ → ℕ) (rules : ℕ → List Rule) where
  -- What is due for a message, by what its server knew.
  abbrev pub IsDue : ℕ → Circuit → List Entry → Fields → List Fields → Option Fields → List Entry
      → Type 0
  IsDue n c y m replies late logs =
      (k : Knows) × (did : Action) × Knew (ports c.server) (rules c.server) c y k
      × Due k m replies did
      × (late ≡ late_reply m did) × Logs n c y did logs

  -- A world is safe.
  abbrev pub IsSafe : World → Type 0
  IsSafe w = Safe IsDue Shows Means w
