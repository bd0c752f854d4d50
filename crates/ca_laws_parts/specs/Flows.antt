-- Working: what the ids that are in flight on one circuit mean, by its two lists.
use Rattle.std.specs.Prelude.{ℕ, ◌≡◌, ◌<◌, ◌≤◌, ◌⊎◌, ◌++◌, List, ◌∷◌, [], Some, length}
use Rattle.ca_text.specs.declared.command.Command.TheVariants as command
use Rattle.ca_text.specs.Place.{At}
use Rattle.ca_wire.specs.Fields.{Fields}
use Rattle.ca_model.specs.Speech.{Id, Cid, SubId, Gives, In, Is, Speaks}
use Rattle.ca_model.specs.History.{Ask, Create, Clear, Subscribe, Cancel, Intent, On, Reply, Sent}
use Rattle.ca_model.specs.History.{Told, Step, Circuit}
use Rattle.ca_model.specs.Channels.{Suits, named}
use Rattle.ca_model.specs.Causes.{TakesOwn}

-- ---- the ways in which the lists grow

-- the client sent a message
abbrev pub with_sent : Sent → Circuit → Circuit
with_sent s c = record c { up = c.up ++ s ∷ [] }

-- the client sent these messages
abbrev pub with_all_sent : List Sent → Circuit → Circuit
with_all_sent ss c = record c { up = c.up ++ ss }

-- the server sent a message: a reply, or a later message about one that it handled
abbrev pub with_told : Told → Circuit → Circuit
with_told t c = record c { down = c.down ++ t ∷ [] }

-- the server handled its next message
abbrev pub with_handled : Step → Circuit → Circuit
with_handled h c = record c { handled = c.handled ++ h ∷ [] }

-- the client read its next message
abbrev pub with_heard : Step → Circuit → Circuit
with_heard h c = record c { heard = c.heard ++ h ∷ [] }

-- ---- what ids mean now

-- By now the id was given last by the client's message at place k, to what has this number.
abbrev pub IsGiven : List Sent → Id → (k number : ℕ) → Type 0
IsGiven up id k number =
    (s : Sent) × At up k s × Gives s.message id × (named id s.intent ≡ Some number)
    × ((l : ℕ) (r : Sent) → k < l → At up l r → Gives r.message id → ⊥)

-- By now the id means what the client's message at place p is about.
abbrev pub MeansOwn : List Sent → (p : ℕ) → Id → Type 0
MeansOwn up p id =
    (k number : ℕ) × (r : Sent) × IsGiven up id k number × (k ≤ p) × At up p r
    × (named id r.intent ≡ Some number)

-- The CID of the channel of the message at place p: the last CREATE_CHAN before it that was meant
-- for that channel gave it.
abbrev pub IsCidOf : List Sent → (p : ℕ) → Intent → (cid : ℕ) → Type 0
IsCidOf up p intent cid =
    (channel k : ℕ) × (ask : Ask) × (r : Sent) × (intent ≡ On channel ask) × (k < p) × At up k r
    × (r.intent ≡ On channel Create)
    × Gives r.message (Cid cid)
    × ((l : ℕ) (s : Sent) → k < l → l < p → At up l s → s.intent ≡ On channel Create → ⊥)

-- What the server's messages about the client's message at place p may speak of: the id that
-- this gives; of a CLEAR_CHANNEL its CID, of an EVENT_CANCEL its subscription id, and of a WRITE
-- the CID of its channel.
abbrev pub Concerns : List Sent → (p : ℕ) → Id → Type 0
Concerns up p id =
    (s : Sent) × At up p s
    × (Gives s.message id
    ⊎ ((Is command.ClearChannel s.message × (id ≡ Cid s.message.p2))
    ⊎ ((Is command.EventCancel s.message × (id ≡ SubId s.message.p2))
    ⊎ (Is command.Write s.message × ((cid : ℕ) × IsCidOf up p s.intent cid × (id ≡ Cid cid))))))

-- ---- what may still come

-- A reply like this to a message that was meant so is the last of the server's messages about it.
abbrev pub IsLast : Fields → Intent → Type 0
IsLast m (On channel Create) = Is command.CreateChannelFail m
IsLast m intent = Unit {0}

-- Once a message meant as the first is answered, nothing more comes about earlier ones that were
-- meant as the second.
abbrev pub Ends : Intent → Intent → Type 0
Ends (On channel Clear) (On other ask) = channel ≡ other
Ends (On channel (Cancel number)) (On other (Subscribe n)) = (channel ≡ other) × (number ≡ n)
Ends intent other = ⊥

-- The server may still send a message about the client's message at place p: it has not handled it;
-- or it keeps something for it. What it keeps are these places: of its puts that are busy or wait
-- on a channel that is open, of its subscriptions, and of its channels' creations.
abbrev pub Awaits : Circuit → (kept : List ℕ) → (p : ℕ) → Type 0
Awaits c kept p = (length c.handled ≤ p) ⊎ In kept p

module _ (Awaits : ℕ → Type 0) where
  -- A message about the one at place p may still reach the client, and speak of this id: it is
  -- unread, or may still be sent.
  abbrev pub IsPending : Circuit → (p : ℕ) → Id → Type 0
  IsPending c p id =
      (Awaits p × Concerns c.up p id)
      ⊎ ((j : ℕ) × (t : Told) × At c.down j t × (length c.heard ≤ j) × (t.place ≡ p)
      × Speaks t.message id)

  -- After the server's message at place j no other comes about the client's at place p.
  abbrev pub NoMore : Circuit → (j p : ℕ) → Type 0
  NoMore c j p = (Awaits p → ⊥) × ((i : ℕ) (t : Told) → At c.down i t → t.place ≡ p → i ≤ j)

  -- The ids on one circuit, by its lists.
  pub record Flows (c : Circuit) : Type 0 where
    -- the client read what was sent, and while it had sent no more than it has by now; the server's
    -- messages are about what was sent
    pub within : length c.heard ≤ length c.down
    pub early : (j : ℕ) (h : Step) → At c.heard j h → h.sent ≤ length c.up
    pub about : (j : ℕ) (t : Told) → At c.down j t → t.place < length c.up
    -- For `asked` of AnswersOwn: messages are what was meant.
    pub asked : (k : ℕ) (s : Sent) → At c.up k s → Suits s.intent s.message
    -- For `own` of AnswersOwn: an id in a message of the server is taken for what
    -- the message is about.
    pub own : (j : ℕ) (t : Told) (id : Id) → At c.down j t → Speaks t.message id
        → TakesOwn c j t.place id
    -- It is one that this concerns.
    pub concerns : (j : ℕ) (t : Told) (id : Id) → At c.down j t → Speaks t.message id
        → Concerns c.up t.place id
    -- And so will be those in the messages that may still be sent: nothing else is given an id that
    -- may still come back.
    pub next : (p : ℕ) (id : Id) → Awaits p → Concerns c.up p id → MeansOwn c.up p id
    -- For `once` of CompletesOnce, and why an id may be given again: after the last message about a
    -- request, a subscription or a channel none comes.
    pub last : (j : ℕ) (t : Told) (s : Sent) → At c.down j t → t.cause ≡ Reply → At c.up t.place s
        → IsLast t.message s.intent
        → NoMore c j t.place
    pub over : (j p : ℕ) (t : Told) (s r : Sent) → At c.down j t → t.cause ≡ Reply
        → At c.up t.place s → At c.up p r → p < t.place
        → Ends s.intent r.intent → NoMore c j p

  -- A message may be sent: it is what was meant; nothing that may still come speaks of the id that
  -- it gives; and the ids that it concerns mean what it is about.
  pub record MaySend (c : Circuit) (s : Sent) : Type 0 where
    pub suits : Suits s.intent s.message
    pub fresh : (p : ℕ) (id : Id) → Gives s.message id → IsPending c p id → ⊥
    pub means : (id : Id) → Concerns (c.up ++ s ∷ []) (length c.up) id
        → MeansOwn (c.up ++ s ∷ []) (length c.up) id

  -- These messages may be sent, one after another.
  abbrev pub MaySendAll : Circuit → List Sent → Type 0
  MaySendAll c [] = Unit {0}
  MaySendAll c (s ∷ ss) = MaySend c s × MaySendAll (with_sent s c) ss

-- A message may be told, after which less may still come: something may still come about what it is
-- about, and it speaks of nothing else; and if it is the last about that, or ends other things,
-- nothing more may come about these.
pub record MayTell (Awaits Fewer : ℕ → Type 0) (c : Circuit) (t : Told) : Type 0 where
  pub there : t.place < length c.up
  pub awaits : Awaits t.place
  pub speaks : (id : Id) → Speaks t.message id → Concerns c.up t.place id
  pub fewer : (p : ℕ) → Fewer p → Awaits p
  pub last : (s : Sent) → t.cause ≡ Reply → At c.up t.place s → IsLast t.message s.intent
      → Fewer t.place → ⊥
  pub over : (p : ℕ) (s r : Sent) → t.cause ≡ Reply → At c.up t.place s → At c.up p r → p < t.place
      → Ends s.intent r.intent → Fewer p → ⊥
