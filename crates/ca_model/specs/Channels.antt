-- Statement: what is read off the lists: which message is whose, which channels are open or live,
-- which writes were applied.
use Rattle.std.specs.Prelude.{ℕ, ◌≡◌, ◌<◌, ◌≤◌, ◌++◌, ◌⊎◌, Bool, true, false, List, [], Option}
use Rattle.std.specs.Prelude.{Some, None, Ok}
use Rattle.std.specs.Prelude.{length, map, option_map, slice_get, take, unwrap_or}
use Rattle.ca_text.specs.declared.command.Command.TheVariants as command
use Rattle.ca_text.specs.Place.{At}
use Rattle.ca_dbr.specs.Elements.{Elements}
use Rattle.ca_dbr.specs.Held.{kind_of}
use Rattle.ca_records.specs.Given.{given_as}
use Rattle.ca_records.specs.Record.{RecordState}
use Rattle.ca_wire.specs.Fields.{Fields}
use Rattle.ca_model.specs.Speech.{Id, Cid, Ioid, SubId, Clears, Creates, Ends, Gives, In, Is}
use Rattle.ca_model.specs.Speech.{IsWritten, Stored, name_in, sid_in}
use Rattle.ca_model.specs.History.{Ask, Create, Clear, Request, Subscribe, Cancel, Read, Put, Write}
use Rattle.ca_model.specs.History.{Intent, On}
use Rattle.ca_model.specs.History.{OfCircuit}
use Rattle.ca_model.specs.History.{Cause, Reply, Removal, Sent, Told, Step, Circuit}
use Rattle.ca_model.specs.History.{Entry, Added, Removed, Waits, Applied, Finished, Withdrawn, Line}
use Rattle.ca_model.specs.History.{Opened, Called, Nothing, ToWrite}
use Rattle.ca_model.specs.History.{World}

-- ---- messages and intents

-- Circuit n of a world, and the logs of the two lives that it joins.
abbrev pub Joins : World → ℕ → Circuit → List Line → List Entry → Type 0
Joins w n c x y = At w.circuits n c × At w.clients c.client x × At w.servers c.server y

-- A fact holds of each circuit and of the two logs that it joins, which are there.
abbrev pub OfCircuits : World → (ℕ → Circuit → List Line → List Entry → Type 0) → Type 0
OfCircuits w P =
    (n : ℕ) (c : Circuit) → At w.circuits n c → (x : List Line) × (y : List Entry) × Joins w n c x y
    × P n c x y

-- A fact holds of the log of each life of a client.
abbrev pub OfClients : World → (ℕ → List Line → Type 0) → Type 0
OfClients w P = (life : ℕ) (x : List Line) → At w.clients life x → P life x

-- A message asks this.
abbrev pub Asks : Ask → Fields → Type 0
Asks Create m = Is command.CreateChannel m
Asks Clear m = Is command.ClearChannel m
Asks (Request Read number) m = Is command.ReadNotify m
Asks (Request Put number) m = Is command.WriteNotify m
Asks (Request Write number) m = Is command.Write m
Asks (Subscribe number) m = Is command.EventAdd m
Asks (Cancel number) m = Is command.EventCancel m

-- A message is of the kind that its intent says; one that serves the circuit asks
-- nothing on a channel.
abbrev pub Suits : Intent → Fields → Type 0
Suits (On channel ask) m = Asks ask m
Suits OfCircuit m = (ask : Ask) → Asks ask m → ⊥

-- The message at place k was meant so.
abbrev pub Meant : Circuit → (k : ℕ) → Intent → Type 0
Meant c k intent = (s : Sent) × At c.up k s × (s.intent ≡ intent)

-- A message meant so is at place k of circuit n, in this life of a client.
abbrev pub Stands : World → (life : ℕ) → Intent → (n k : ℕ) → Type 0
Stands w life intent n k = (c : Circuit) × At w.circuits n c × (c.client ≡ life) × Meant c k intent

-- An intent to read or write once.
abbrev pub IsRequest : Intent → Type 0
IsRequest (On channel (Request kind number)) = Unit {0}
IsRequest intent = ⊥

-- An intent to use a record: to read, to write or to subscribe.
abbrev pub IsUse : Intent → Type 0
IsUse (On channel (Request kind number)) = Unit {0}
IsUse (On channel (Subscribe number)) = Unit {0}
IsUse intent = ⊥

-- By these lines the caller has not ended what it meant: it cleared no such channel and cancelled
-- no such subscription.
abbrev pub IsHeld : List Line → Intent → Type 0
IsHeld x (On channel (Subscribe number)) =
    (In x (Called (On channel Clear) Nothing) → ⊥)
    × (In x (Called (On channel (Cancel number)) Nothing) → ⊥)
IsHeld x (On channel ask) = In x (Called (On channel Clear) Nothing) → ⊥
IsHeld x OfCircuit = Unit {0}

-- What an id names in an intent: the channel, the request or the subscription.
abbrev pub named : Id → Intent → Option ℕ
named (Cid id) (On channel ask) = Some channel
named (Ioid id) (On channel (Request kind number)) = Some number
named (SubId id) (On channel (Subscribe number)) = Some number
named (SubId id) (On channel (Cancel number)) = Some number
named id intent = None

-- How many messages the client had sent when it read the one at place j; or has sent by now,
-- if it has not read it.
abbrev pub until : Circuit → ℕ → ℕ
until c j = unwrap_or (option_map (λ (h : Step). h.sent) (slice_get c.heard j)) (length c.up)

-- The circuit as its server knew it when it took the message at place k, in this step.
abbrev pub before : Circuit → ℕ → Step → Circuit
before c k h = record c {
  up = take k c.up;
  down = take h.sent c.down;
  handled = take k c.handled;
  heard = [];
  queued = [];
  client_open = true;
  server_open = true;
}

-- The updates that were sent, and then those that are queued, by place and cause.
abbrev pub updates : Circuit → List (ℕ × Cause)
updates c = map (λ (t : Told). (t.place, t.cause)) c.down ++ c.queued

-- The server's message at place j is this one, as a reply to the client's at place k.
abbrev pub IsReply : Circuit → (k j : ℕ) → Fields → Type 0
IsReply c k j m = At c.down j (record { message = m; place = k; cause = Reply })

-- The steps of an end: one for each of the first messages that came to it, in order; each within
-- what it sent and logged.
pub record AreSteps {A B C : Type 0} (steps : List Step) (came : List A) (sent : List B)
    (log : List C) : Type 0 where
  pub one_each : length steps ≤ length came
  pub within : (k : ℕ) (h : Step) → At steps k h → (h.sent ≤ length sent) × (h.logged ≤ h.after)
      × (h.after ≤ length log)
  pub rise : (i j : ℕ) (g h : Step) → i < j → At steps i g → At steps j h → (g.sent ≤ h.sent)
      × (g.after ≤ h.logged)

-- ---- channels

-- By this log the server has record r, of this name: it was added, and not removed since.
abbrev pub Has : List Entry → (r : ℕ) → (name : List ℕ) → Type 0
Has y r name = (s : RecordState) × In y (Added r s) × (s.name ≡ name) × (In y (Removed r) → ⊥)

-- A channel is opened once. A record is added once, when no other has its name, and removed
-- only while it is there.
pub record KeepNames (x : List Line) (y : List Entry) : Type 0 where
  pub one_name : (i j channel : ℕ) (a b : List ℕ) → At x i (Opened channel a)
      → At x j (Opened channel b) → i ≡ j
  pub one_record : (i j r : ℕ) (a b : RecordState) → At y i (Added r a) → At y j (Added r b) → i ≡ j
  pub one_at_once : (i r q : ℕ) (s : RecordState) → At y i (Added r s) → Has (take i y) q s.name → ⊥
  pub was_there : (i r : ℕ) → At y i (Removed r) → (name : List ℕ) × Has (take i y) r name

-- Record r has the name under which the client opened this channel.
abbrev pub IsNamed : List Line → List Entry → (channel r : ℕ) → Type 0
IsNamed x y channel r = (s : RecordState) × In x (Opened channel s.name) × In y (Added r s)

-- The CREATE_CHAN at place k was answered at place j with its CID and this SID, for record r, which
-- the server had under its name.
abbrev pub Created : Circuit → List Entry → (j k sid r : ℕ) → Type 0
Created c y j k sid r =
    (t : Told) × (s : Sent) × (h : Step) × At c.down j t × (t.place ≡ k) × (t.cause ≡ Reply)
    × Creates t.message sid
    × At c.up k s × At c.handled k h × Has (take h.logged y) r (name_in s.message)
    × Gives s.message (Cid t.message.p1)

-- The channel so created is open: no other was created under its SID later, and no
-- CLEAR_CHANNEL of it was handled.
abbrev pub IsOpen : Circuit → List Entry → (j k sid r : ℕ) → Type 0
IsOpen c y j k sid r =
    Created c y j k sid r × ((i : ℕ) (t : Told) → j < i → At c.down i t → Creates t.message sid → ⊥)
    × ((l : ℕ) (s : Sent) → k < l → l < length c.handled → At c.up l s → Clears s.message sid → ⊥)

-- When the server's log had n entries, it had handled a CLEAR_CHANNEL of this SID that
-- was sent after place k.
abbrev pub IsCleared : Circuit → (k sid logged : ℕ) → Type 0
IsCleared c k sid logged =
    (l : ℕ) × (s : Sent) × (h : Step) × (k < l) × At c.up l s × At c.handled l h
    × (h.logged ≤ logged)
    × Clears s.message sid

-- And it had handled none.
abbrev pub IsUncleared : Circuit → (k sid logged : ℕ) → Type 0
IsUncleared c k sid logged = IsCleared c k sid logged → ⊥

-- The channel is live at the client: its creation was read, no CLEAR_CHANNEL of it was sent since,
-- and the client's end is open.
abbrev pub IsLive : Circuit → (channel j k sid : ℕ) → Type 0
IsLive c channel j k sid =
    (t : Told) × Meant c k (On channel Create) × At c.down j t × (t.place ≡ k) × (t.cause ≡ Reply)
    × Creates t.message sid
    × (j < length c.heard) × ((l : ℕ) → k < l → Meant c l (On channel Clear) → ⊥)
    × (c.client_open ≡ true)

-- The SERVER_DISCONN for the channel created at place k was sent, and is unread.
abbrev pub IsUnread : Circuit → (k : ℕ) → Type 0
IsUnread c k =
    (j : ℕ) × (t : Told) × At c.down j t × (t.place ≡ k) × (t.cause ≡ Removal)
    × (length c.heard ≤ j)

-- The subscription of the EVENT_ADD s lasts: the server's end is open, record r is there, and no
-- cancel or clear was handled.
abbrev pub Lasts : Circuit → List Entry → (k r : ℕ) → Sent → Type 0
Lasts c y k r s =
    (c.server_open ≡ true) × (In y (Removed r) → ⊥)
    × ((l : ℕ) (m : Sent) → k < l → l < length c.handled → At c.up l m → Ends s.message m.message
    → ⊥)

-- ---- writes and endings

-- The write at place k of circuit n is applied, at entry i of the log of server life l, to
-- record r with this value.
abbrev pub IsApplied : World → (n k l i r : ℕ) → Stored → Type 0
IsApplied w n k l i r v =
    (y : List Entry) × (busies : Bool) × At w.servers l y × At y i (Applied n k r v busies)

-- Entry i was made in the step that handled the message at place k.
abbrev pub IsHandledIn : Circuit → (k i : ℕ) → Type 0
IsHandledIn c k i = (h : Step) × At c.handled k h × (h.logged ≤ i) × (i < h.after)

-- It was made then; or after all steps, as the server's end closed on the message.
abbrev pub IsTaken : Circuit → (k i : ℕ) → Type 0
IsTaken c k i =
    IsHandledIn c k i
    ⊎ ((k ≡ length c.handled) × (c.server_open ≡ false)
    × ((l : ℕ) (g : Step) → At c.handled l g → g.after ≤ i))

-- The put at place k of circuit n came to server life l in entry i: the circuit joins that life,
-- and the entry was made in the step that handled the message.
abbrev pub CameIn : World → (n k l i : ℕ) → Type 0
CameIn w n k l i = (c : Circuit) × At w.circuits n c × (c.server ≡ l) × IsHandledIn c k i

-- The put at place k of circuit n waits for record r with this value, by entry i of the log of
-- server life l.
abbrev pub IsWaiting : World → (n k l i r : ℕ) → Stored → Type 0
IsWaiting w n k l i r v = (y : List Entry) × At w.servers l y × At y i (Waits n k r v)

-- The put at place k of circuit n came to wait for record r in its step, before entry i, and was
-- never withdrawn.
abbrev pub HasWaited : (n : ℕ) → Circuit → List Entry → (k i r : ℕ) → Type 0
HasWaited n c y k i r =
    (e : ℕ) × (v : Stored) × At y e (Waits n k r v) × (e < i) × IsHandledIn c k e
    × (In y (Withdrawn n k) → ⊥)

-- The put at place k of circuit n is dropped at entry i: it had come to wait before; and its record
-- was removed, its channel was cleared, or the server's end of its circuit closed.
pub record IsDropped (w : World) (n k l i : ℕ) (y : List Entry) : Type 0 where
  pub c : Circuit
  pub on : At w.circuits n c × (c.server ≡ l)
  pub e : ℕ
  pub r : ℕ
  pub v : Stored
  pub waited : At y e (Waits n k r v) × (e < i)
  pub s : Sent
  pub at : At c.up k s
  pub why : In (take i y) (Removed r)
      ⊎ (IsCleared c k (sid_in s.message) i ⊎ (c.server_open ≡ false))

-- A write that is applied at entry i has the value that its caller gave, in the type of its record
-- and with that one's display data, and the alarm of that value; the record was there then, under
-- the name of the caller's channel; and it was applied when it was handled, or the server's end
-- closed on it, or after it had waited.
pub record IsOwnWrite (w : World) (n k l i r : ℕ) (v : Stored) : Type 0 where
  pub c : Circuit
  pub x : List Line
  pub y : List Entry
  pub joins : Joins w n c x y × (c.server ≡ l)
  pub channel : ℕ
  pub ask : Ask
  pub given : Elements
  pub called : Meant c k (On channel ask) × In x (Called (On channel ask) (ToWrite given))
  pub to : RecordState
  pub there : In x (Opened channel to.name) × In (take i y) (Added r to)
      × (In (take i y) (Removed r) → ⊥)
  pub value : given_as given (kind_of to.value) ≡ Ok v.value
  pub written : IsWritten v
  pub came : IsTaken c k i ⊎ HasWaited n c y k i r

-- Until entry e the put at place k of circuit n made its record busy: it was applied before, and no
-- other made the record busy since.
abbrev pub IsBusyUntil : List Entry → (n k e : ℕ) → Type 0
IsBusyUntil y n k e =
    (i r : ℕ) × (v : Stored) × At y i (Applied n k r v true) × (i < e)
    × ((j m l : ℕ) (u : Stored) → i < j → j < e → At y j (Applied m l r u true) → ⊥)

-- The put s at place k of circuit n was finished, before any CLEAR_CHANNEL of its
-- channel was handled.
abbrev pub IsFinished : (n : ℕ) → Circuit → List Entry → (k : ℕ) → Sent → Type 0
IsFinished n c y k s =
    (e : ℕ) × At y e (Finished n k) × IsBusyUntil y n k e × IsUncleared c k (sid_in s.message) e

-- What was meant so is lost in line i: its client's end has ended, or its channel was cleared
-- before, or in the step that told line i a SERVER_DISCONN was read for the creation of its channel
-- after which it was sent.
abbrev pub IsLost : World → (life : ℕ) → List Line → (i : ℕ) → Intent → Type 0
IsLost w life x i intent =
    (n k channel : ℕ) × (ask : Ask) × (c : Circuit) × At w.circuits n c × (c.client ≡ life)
    × (intent ≡ On channel ask)
    × Meant c k intent
    × ((c.client_open ≡ false) ⊎ (In (take i x) (Called (On channel Clear) Nothing)
    ⊎ ((j : ℕ) × (t : Told) × (h : Step) × At c.down j t × At c.heard j h × (t.cause ≡ Removal)
    × Meant c t.place (On channel Create)
    × (t.place ≤ k) × (k < h.sent) × (h.logged ≤ i) × (i < h.after))))
