-- Working: what clients read, put and write was called, reads ask for what their callers did, and
-- puts and plain writes carry what those gave; the record that each was applied to has the name of
-- the caller's channel.
use Rattle.std.specs.Prelude.{ℕ, ◌≡◌, ◌⊎◌, List}
use Rattle.ca_dbr.specs.Elements.{Elements, IsValue}
use Rattle.ca_records.specs.Record.{RecordState}
use Rattle.ca_text.specs.Place.{At}
use Rattle.ca_model.specs.History.{Added, Applied, Ask, Called, Entry, Intent, Line, On, Opened}
use Rattle.ca_model.specs.History.{Put, Read, Request, Sent, ToRead, ToWrite, Waits, Write}
use Rattle.ca_model.specs.Channels.{IsRequest}
use Rattle.ca_model.specs.Legal.{Carries}
use Rattle.ca_model.specs.Speech.{In, IsWritten}
use Rattle.ca_model.specs.World.{Joined, World}

-- ---- what clients send

-- an intent to read
abbrev pub IsRead : Intent → Type 0
IsRead (On channel (Request Read number)) = Unit {0}
IsRead intent = ⊥

-- an intent to put, or to write
abbrev pub IsWrite : Intent → Type 0
IsWrite (On channel (Request Put number)) = Unit {0}
IsWrite (On channel (Request Write number)) = Unit {0}
IsWrite intent = ⊥

-- By these lines what the message is meant for was called with a value, which the message carries.
pub record IsCarried (x : List Line) (s : Sent) : Type 0 where
  pub given : Elements
  pub called : In x (Called s.intent (ToWrite given))
  pub valued : IsValue given
  pub carries : Carries s.message given

-- What the message is meant for was called: a read for the type and the count that it asks for, or
-- a put or a plain write with its value.
abbrev pub IsCalledIn : List Line → Sent → Type 0
IsCalledIn x s =
    (IsRead s.intent × In x (Called s.intent (ToRead s.message.data_type s.message.count)))
    ⊎ (IsWrite s.intent × IsCarried x s)

-- So it is of each request that was sent, by the log of its client's life.
abbrev pub AllCarried : World → Type 0
AllCarried w =
    (n k : ℕ) (c : Joined) (s : Sent) (x : List Line) → At w.circuits n c → At c.lists.up k s
    → At w.client_logs c.lists.client x
    → IsRequest s.intent → IsCalledIn x s

-- ---- what servers log

-- The entry says that the write at place k of circuit n waits for record r, or was applied to it.
abbrev pub IsWriteTo : (n k r : ℕ) → Entry → Type 0
IsWriteTo n k r (Waits m l q v) = (m ≡ n) × (l ≡ k) × (q ≡ r)
IsWriteTo n k r (Applied m l q v busies) = (m ≡ n) × (l ≡ k) × (q ≡ r)
IsWriteTo n k r entry = ⊥

-- Record r of this log was added under the name under which the channel was opened that the message
-- at place k of circuit n is meant for.
pub record IsTitled (w : World) (n k r : ℕ) (y : List Entry) : Type 0 where
  pub c : Joined
  pub on : At w.circuits n c
  pub x : List Line
  pub lines : At w.client_logs c.lists.client x
  pub s : Sent
  pub sent : At c.lists.up k s
  pub channel : ℕ
  pub ask : Ask
  pub meant : s.intent ≡ On channel ask
  pub state : RecordState
  pub opened : In x (Opened channel state.name)
  pub added : In y (Added r state)

-- what the entry stores is as a write stores it
abbrev pub IsAsWritten : Entry → Type 0
IsAsWritten (Waits n k r v) = IsWritten v
IsAsWritten (Applied n k r v busies) = IsWritten v
IsAsWritten entry = Unit {0}

-- So it is of each write of which the log of any life of a server tells, as the world has the
-- circuits and the logs of clients; and what it stores is as a write stores it.
abbrev pub LogTitled : World → List Entry → Type 0
LogTitled w y =
    (n k r : ℕ) (e : Entry) → In y e → IsWriteTo n k r e → IsTitled w n k r y × IsAsWritten e

abbrev pub AllTitled : World → Type 0
AllTitled w = (life : ℕ) (y : List Entry) → At w.server_logs life y → LogTitled w y
