-- Statement: the heart of what is promised of Channel Access clients and servers.
use Rattle.std.specs.Prelude.{ℕ, ◌≡◌, ◌<◌, ◌≤◌, ◌+◌, ◌⊎◌, false, true, List, Option, Some, length}
use Rattle.std.specs.Prelude.{take}
use Rattle.ca_text.specs.Place.{At}
use Rattle.ca_text.specs.Status.{bad_channel}
use Rattle.ca_text.specs.declared.status.Status.{Status}
use Rattle.ca_dbr.specs.declared.value.Outcome.{Outcome}
use Rattle.ca_dbr.specs.declared.value.Outcome.TheVariants.{Done, Failed, Disconnected}
use Rattle.ca_wire.specs.Fields.{Fields}
use Rattle.ca_model.specs.Speech.{Id, In, Speaks, Stored}
use Rattle.ca_wire.specs.Messages.{mask_in}
use Rattle.ca_model.specs.History.{Ask, Create, Request, Put, Intent, On, Reply, Removal, Update}
use Rattle.ca_model.specs.History.{Sent, Told, Step, Circuit, Entry, Removed, Finished, Withdrawn}
use Rattle.ca_model.specs.History.{Line, Called, Noticed, Updated, Wish, World}
use Rattle.ca_model.specs.Channels.{AreSteps, CameIn, IsApplied, IsBusyUntil, IsDropped, IsFinished}
use Rattle.ca_model.specs.Channels.{IsHeld, IsLive, IsOwnWrite, IsReply, IsRequest, IsUnread, IsUse}
use Rattle.ca_model.specs.Channels.{KeepNames, IsLost, IsNamed, IsOpen, IsWaiting, Lasts, Meant}
use Rattle.ca_model.specs.Channels.{OfCircuits, OfClients, Stands, Suits, before, updates}
use Rattle.ca_model.specs.Posts.{matching}
use Rattle.ca_model.specs.Causes.{Acted, TakesOwn, Accepted, HasCause}

-- What is due for a message, by what its server knew: replies now, one when its put finishes, and
-- what is logged. Which update shows an EVENT_ADD a stored value. What outcome a message means.
module _
    (Due : ℕ → Circuit → List Entry → Fields → List Fields → Option Fields → List Entry → Type 0)
    (Shows : Fields → Stored → Fields → Type 0) (Means : Fields → Outcome → Type 0) where
  -- The reply at place j to the message at place k says BADCHID.
  abbrev pub IsBadChannel : Circuit → (k j : ℕ) → Type 0
  IsBadChannel c k j =
      (m : Fields) × IsReply c k j m × Means m (Failed (record { number = bad_channel }))

  -- 1. A message on a channel is handled on the record that the channel names. BADCHID answers it
  -- only if that record was removed, and then answers each use of it. A live channel is open at the
  -- server under its SID; its record is there, or a SERVER_DISCONN for it is unread. Channels and
  -- records keep their names.
  pub record ActsOnRecord (n : ℕ) (c : Circuit) (x : List Line) (y : List Entry) : Type 0 where
    pub acts : (k channel : ℕ) (ask : Ask) → k < length c.handled → Meant c k (On channel ask)
        → (ask ≡ Create → ⊥)
        → (r : ℕ) × Acted c y k r × IsNamed x y channel r
    pub retired : (k j r : ℕ) (h : Step) → IsBadChannel c k j → Acted c y k r → At c.handled k h
        → In (take h.logged y) (Removed r)
    pub refused : (k j r : ℕ) (m : Fields) (s : Sent) (h : Step) → IsReply c k j m → At c.up k s
        → IsUse s.intent
        → Acted c y k r → At c.handled k h → In (take h.logged y) (Removed r) → IsBadChannel c k j
    pub live : (channel j k sid : ℕ) → IsLive c channel j k sid
        → (r : ℕ) × IsOpen c y j k sid r × IsNamed x y channel r
        × (c.server_open ≡ true → (In y (Removed r) → ⊥) ⊎ IsUnread c k)
    pub names : KeepNames x y

  -- The message at place k got the replies due, each once, in its step, which logged what was due,
  -- and besides only withdrawals. A late reply to a put is there only once the put is finished, and
  -- then it is there if the server's end is open.
  pub record Answered (n : ℕ) (c : Circuit) (y : List Entry) (k : ℕ) (h : Step) : Type 0 where
    pub s : Sent
    pub at : At c.up k s
    pub replies : List Fields
    pub late : Option Fields
    pub logs : List Entry
    pub due : Due n (before c k h) (take h.logged y) s.message replies late logs
    pub now : (i : ℕ) (m : Fields) → At replies i m → IsReply c k (h.sent + i) m
    pub logged : (i : ℕ) (e : Entry) → At logs i e → At y (h.logged + i) e
    pub within : h.logged + length logs ≤ h.after
    pub besides : (i : ℕ) (e : Entry) → h.logged + length logs ≤ i → i < h.after → At y i e
        → (m l : ℕ) × (e ≡ Withdrawn m l)
    pub place : ℕ
    pub only : (j : ℕ) (m : Fields) → IsReply c k j m
        → (j < h.sent + length replies) ⊎ ((j ≡ place) × (late ≡ Some m) × IsFinished n c y k s)
    pub comes : (m : Fields) → late ≡ Some m → IsFinished n c y k s → c.server_open ≡ true
        → IsReply c k place m
    pub next : (l : ℕ) (g : Step) → k < l → At c.handled l g → h.sent + length replies ≤ g.sent

  -- 2. On a circuit each message of the client is what was meant, and each of the server has its
  -- cause, handled before; no creation has two SERVER_DISCONNs; an id is taken for what the cause
  -- is about; each handled message is answered; and steps are in order.
  pub record AnswersOwn (n : ℕ) (c : Circuit) (x : List Line) (y : List Entry) : Type 0 where
    pub asked : (k : ℕ) (s : Sent) → At c.up k s → Suits s.intent s.message
    pub caused : (j : ℕ) (t : Told) → At c.down j t → HasCause c y t t.cause
        × ((h : Step) × At c.handled t.place h × (h.sent ≤ j))
    pub removed : (i j : ℕ) (t u : Told) → At c.down i t → At c.down j u → t.place ≡ u.place
        → t.cause ≡ Removal
        → u.cause ≡ Removal → i ≡ j
    pub own : (j : ℕ) (t : Told) (id : Id) → At c.down j t → Speaks t.message id
        → TakesOwn c j t.place id
    pub answered : (k : ℕ) (h : Step) → At c.handled k h → Answered n c y k h
    pub in_order : AreSteps c.handled c.up c.down y × AreSteps c.heard c.down c.up x

  -- Line i of a client's log was told when the client read a message that means this outcome, about
  -- its own with this intent, which the caller had not ended.
  pub record Reads (w : World) (life : ℕ) (x : List Line) (i : ℕ) (intent : Intent)
      (o : Outcome) : Type 0 where
    pub n : ℕ
    pub c : Circuit
    pub on : At w.circuits n c × (c.client ≡ life)
    pub j : ℕ
    pub t : Told
    pub h : Step
    pub read : At c.down j t × At c.heard j h × (h.logged ≡ i) × (i < h.after)
    pub own : Meant c t.place intent
    pub held : IsHeld (take i x) intent
    pub means : Means t.message o

  -- A channel is lost in line i: it was told live before, and was not lost or cleared since; and
  -- its circuit has ended at the client, or in the step that told line i the SERVER_DISCONN for
  -- that creation was read.
  pub record LosesLive (w : World) (life : ℕ) (x : List Line) (i channel : ℕ) : Type 0 where
    pub l : ℕ
    pub by : Reads w life x l (On channel Create) Done
    pub live : At x l (Noticed (On channel Create) Done) × (l < i)
        × IsHeld (take i x) (On channel Create)
    pub since : (m : ℕ) → l < m → m < i → At x m (Noticed (On channel Create) Disconnected) → ⊥
    pub why : (by.c.client_open ≡ false)
        ⊎ ((j : ℕ) × (t : Told) × (h : Step) × At by.c.down j t × At by.c.heard j h
        × (t.cause ≡ Removal) × (t.place ≡ by.t.place) × (h.logged ≤ i) × (i < h.after))

  -- And in a client's log: a notice tells what the reply to its own message means, or Disconnected
  -- if that is lost; a read, write or subscription has one notice at most; a call is accepted once;
  -- and each accepted request is at one place.
  pub record CompletesOnce (w : World) (life : ℕ) (x : List Line) : Type 0 where
    pub told : (i : ℕ) (intent : Intent) (o : Outcome) → At x i (Noticed intent o)
        → ((by : Reads w life x i intent o) × (by.t.cause ≡ Reply))
        ⊎ ((o ≡ Disconnected) × IsLost w life x i intent)
    pub lost : (i channel : ℕ) → At x i (Noticed (On channel Create) Disconnected)
        → LosesLive w life x i channel
    pub once : (i l : ℕ) (intent : Intent) (o p : Outcome) → IsUse intent
        → At x i (Noticed intent o)
        → At x l (Noticed intent p) → i ≡ l
    pub one_call : (i l : ℕ) (intent : Intent) (a b : Wish) → At x i (Called intent a)
        → At x l (Called intent b) → i ≡ l
    pub sent : (intent : Intent) (a : Wish) → IsRequest intent → In x (Called intent a)
        → (n k : ℕ) × Stands w life intent n k
    pub at_one : (intent : Intent) (n k m l : ℕ) → IsRequest intent → Stands w life intent n k
        → Stands w life intent m l → (n ≡ m) × (k ≡ l)

  -- 3. A write is applied once, in all lives of all servers, with its own value to its own record,
  -- when it was handled, or as the server's end closed on it, or after it had waited. A put came to
  -- wait when it was handled, and is dropped only with its record, its channel or its circuit. A
  -- record finishes one put at a time, each once. A put told Done is applied; a write told Failed
  -- is not.
  pub record NotTwice (w : World) : Type 0 where
    pub once : (n k l m i j r q : ℕ) (v u : Stored) → IsApplied w n k l i r v
        → IsApplied w n k m j q u
        → (l ≡ m) × (i ≡ j)
    pub own : (n k l i r : ℕ) (v : Stored) → IsApplied w n k l i r v → IsOwnWrite w n k l i r v
    pub waits : (n k l i r : ℕ) (v : Stored) → IsWaiting w n k l i r v → CameIn w n k l i
    pub dropped : (n k l i : ℕ) (y : List Entry) → At w.servers l y → At y i (Withdrawn n k)
        → IsDropped w n k l i y
    pub finished : (n k l e : ℕ) (y : List Entry) → At w.servers l y → At y e (Finished n k)
        → IsBusyUntil y n k e × ((f : ℕ) → At y f (Finished n k) → e ≡ f)
    pub done : (life channel number : ℕ) (x : List Line) → At w.clients life x
        → In x (Noticed (On channel (Request Put number)) Done)
        → (n k l i r : ℕ) × (v : Stored) × Stands w life (On channel (Request Put number)) n k
        × IsApplied w n k l i r v
    pub failed : (life n k l i r : ℕ) (intent : Intent) (s : Status) (x : List Line) (v : Stored)
        → At w.clients life x
        → In x (Noticed intent (Failed s)) → Stands w life intent n k → IsApplied w n k l i r v → ⊥

  -- The updates of the EVENT_ADD s, sent and then queued, carry matching posts by rising numbers;
  -- each sent one shows its post; and while the subscription lasts, the newest post is among them.
  pub record Follows (c : Circuit) (y : List Entry) (k r : ℕ) (s : Sent)
      (posts : List Stored) : Type 0 where
    pub rising : (i j a b : ℕ) → i < j → At (updates c) i (k, Update a)
        → At (updates c) j (k, Update b) → a < b
    pub matches : (a : ℕ) → In (updates c) (k, Update a) → a < length posts
    pub shows : (j a : ℕ) (t : Told) → At c.down j t → t.place ≡ k → t.cause ≡ Update a
        → (v : Stored) × At posts a v × Shows s.message v t.message
    pub newest : Lasts c y k r s → (a : ℕ) × In (updates c) (k, Update a) × (a + 1 ≡ length posts)

  -- 4. The updates of each accepted EVENT_ADD follow its record.
  abbrev pub FollowsRecord : ℕ → Circuit → List Line → List Entry → Type 0
  FollowsRecord n c x y =
      (k r : ℕ) (s : Sent) (h : Step) → Accepted c y k r s h
      → Follows c y k r s (matching y h.logged r (mask_in s.message))

  -- And a subscriber saw updates of its own, of each EVENT_ADD in order and with none left out.
  pub record Sees (w : World) (life : ℕ) (x : List Line) : Type 0 where
    pub own : (i : ℕ) (intent : Intent) (o : Outcome) → At x i (Updated intent o)
        → (by : Reads w life x i intent o) × (a : ℕ) × (by.t.cause ≡ Update a)
    pub in_order : (i : ℕ) (intent : Intent) (o : Outcome) (by : Reads w life x i intent o)
        (j a : ℕ) (t : Told)
        → At x i (Updated intent o) → j < by.j → At by.c.down j t → t.place ≡ by.t.place
        → t.cause ≡ Update a
        → (l : ℕ) × (p : Outcome) × (see : Reads w life x l intent p)
        × At x l (Updated intent p) × (l < i) × (see.n ≡ by.n) × (see.j ≡ j)

  -- The whole statement: a world is safe.
  pub record Safe (w : World) : Type 0 where
    pub acts : OfCircuits w ActsOnRecord
    pub own : OfCircuits w AnswersOwn × OfClients w (CompletesOnce w)
    pub applied : NotTwice w
    pub sees : OfCircuits w FollowsRecord × OfClients w (Sees w)
