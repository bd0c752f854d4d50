-- Working: how each message that a server handled was answered, by the lists of its circuit and the
-- log of the server's life.
use Rattle.std.specs.Prelude.{ℕ, ◌≡◌, ◌<◌, ◌≤◌, ◌+◌, ◌==◌, ◌⊎◌, true, List, length, take}
use Rattle.std.specs.List.{list_any}
use Rattle.ca_text.specs.Command.{command_number}
use Rattle.ca_text.specs.declared.command.Command.TheVariants as command
use Rattle.ca_text.specs.Place.{At}
use Rattle.ca_text.specs.Status.{normal}
use Rattle.ca_wire.specs.Fields.{Fields}
use Rattle.ca_model.specs.Due.{Action, Clears, Due, Knows}
use Rattle.ca_model.specs.History.{Circuit, Entry, Finished, Line, Sent, Step, Withdrawn}
use Rattle.ca_model.specs.Speech.{In, Is, sid_in}
use Rattle.ca_model.specs.Channels.{IsFinished, IsReply, IsUncleared, OfCircuits, before}
use Rattle.ca_model.specs.Known.{AreJust, IsChannel, IsFull, IsKey, IsLogged, IsRecordOf}
use Rattle.ca_model.specs.Known.{IsWithdrawal, NamesItself, has_created}
use Rattle.ca_model.specs.World.{Setting, World, told}
use Rattle.ca_laws_runs.specs.Given.{IsGiven}

-- What a server knows of its records, of its peer on a circuit, of the open channels there and
-- of its subscriptions is what these lists and this log say: all of what a server knew, but for
-- its port and its rules.
pub record KnowsLists (c : Circuit) (y : List Entry) (k : Knows) : Type 0 where
  pub records : (name : List ℕ) → IsRecordOf y name (k.record_of name)
  pub greeted : k.greeted ≡ list_any
      (λ (s : Sent). s.message.command == command_number command.Version) c.up
  pub user : NamesItself c command.ClientName k.peer.user
  pub host : NamesItself c command.HostName k.peer.host
  pub settled : k.settled ≡ has_created c.down
  pub channels : AreJust k.channels (IsChannel c y)
  pub full : k.full ≡ true → IsFull c k
  pub keys : AreJust k.keys (IsKey c y)

-- The circuit as its server knew it when it took the message at place k, in this step,
-- whoever its client is.
abbrev pub past : Circuit → ℕ → Step → Circuit
past c k h = record (before c k h) { client = 0 }

-- What the step of the message at place k logs for what that does: its write; or, as a channel is
-- cleared, withdrawals (`clears` says which).
abbrev pub LogsSo : (n k : ℕ) → List Entry → Action → List Entry → Type 0
LogsSo n k y (Clears sid) logs = (i : ℕ) (e : Entry) → At logs i e → (m l : ℕ) × (e ≡ Withdrawn m l)
LogsSo n k y did logs = IsLogged n k y did logs

-- The message at place k got, in its step, the replies that were due by what its server knew then,
-- each once and in order. Its step logged what was due, and besides only withdrawals.
pub record IsAnswered (n : ℕ) (c : Circuit) (y : List Entry) (k : ℕ) (h : Step) : Type 0 where
  pub s : Sent
  pub at : At c.up k s
  pub known : Knows
  pub did : Action
  pub replies : List Fields
  pub knew : KnowsLists (past c k h) (take h.logged y) known
  pub due : Due known s.message replies did
  pub now : (i : ℕ) (m : Fields) → At replies i m → IsReply c k (h.sent + i) m
  pub fits : h.sent + length replies ≤ length c.down
  pub next : (l : ℕ) (g : Step) → k < l → At c.handled l g → h.sent + length replies ≤ g.sent
  pub logs : List Entry
  pub logs_are : LogsSo n k (take h.logged y) did logs
  pub clears : (sid : ℕ) → did ≡ Clears sid
      → AreJust logs (IsWithdrawal n (past c k h) (take h.logged y) sid)
  pub logged : (i : ℕ) (e : Entry) → At logs i e → At y (h.logged + i) e
  pub within : h.logged + length logs ≤ h.after
  pub besides : (i : ℕ) (e : Entry) → h.logged + length logs ≤ i → i < h.after → At y i e
      → (m l : ℕ) × (e ≡ Withdrawn m l)
  pub ends : h.after ≤ length y

-- A reply that came later, to a put, says that it was done; and that put was finished, before its
-- channel was cleared.
abbrev pub IsLate : (n : ℕ) → Circuit → List Entry → (k : ℕ) → Fields → Type 0
IsLate n c y k m =
    Is command.WriteNotify m × (m.p1 ≡ normal) × In y (Finished n k)
    × ((s : Sent) × At c.up k s × Is command.WriteNotify s.message
    × ((e : ℕ) × At y e (Finished n k) × IsUncleared c k (sid_in s.message) e))

-- And every other reply about it is late.
abbrev pub AnsweredAt : (n : ℕ) → Circuit → List Entry → (k : ℕ) → Step → Type 0
AnsweredAt n c y k h =
    (a : IsAnswered n c y k h)
    × ((j : ℕ) (m : Fields) → IsReply c k j m → (j < h.sent + length a.replies) ⊎ IsLate n c y k m)

-- So it is, and the server went by what server i was given.
abbrev pub AnsweredBy : Setting → (i n : ℕ) → Circuit → List Entry → (k : ℕ) → Step → Type 0
AnsweredBy s i n c y k h = (a : AnsweredAt n c y k h) × IsGiven s i a.0.known

-- So it is, in the words of the statement: a late reply is to a put that was finished.
abbrev pub AnsweredSo : (n : ℕ) → Circuit → List Entry → (k : ℕ) → Step → Type 0
AnsweredSo n c y k h =
    (a : IsAnswered n c y k h)
    × ((j : ℕ) (m : Fields) → IsReply c k j m
    → (j < h.sent + length a.replies)
    ⊎ (Is command.WriteNotify m × (m.p1 ≡ normal) × Is command.WriteNotify a.s.message
    × IsFinished n c y k a.s))

-- And of each message that was handled on any circuit, whether its ends are open or not.
abbrev pub AreAnswered : World → Type 0
AreAnswered w =
    OfCircuits (told w)
    (λ (n : ℕ) (c : Circuit) (x : List Line) (y : List Entry). (k : ℕ) (h : Step) → At c.handled k h
    → AnsweredSo n c y k h)
