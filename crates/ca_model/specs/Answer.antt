-- Vocabulary: what one circuit's engine writes for the messages that it read: for each, its
-- replies, then the replies of finishes, and then the updates of one pump (section "Overall Server
-- Operation"). It is the contract of `answer_stream`.
use Rattle.std.specs.Prelude.{ℕ, ◌≡◌, ◌++◌, Bool, false, List, [], ◌∷◌, None, Ok, length}
use Rattle.std.specs.List.{FoldsTo}
use Rattle.ca_arena.specs.declared.handle.Handle.{Handle}
use Rattle.ca_link.specs.Link.{LinkState, with_handed}
use Rattle.ca_records.specs.Puts.{Record}
use Rattle.ca_records.specs.Record.{RecordState}
use Rattle.ca_records.specs.Rules.{Rule}
use Rattle.ca_text.specs.Limits.{server_port}
use Rattle.ca_wire.specs.Fields.{Fields}
use Rattle.ca_model.specs.Due.{Action}
use Rattle.ca_model.specs.Server.{Server, ServerEnd, new_server}
use Rattle.ca_model.specs.ServerCalls.{Finishes}
use Rattle.ca_model.specs.ServerSteps.{Accepts, Handles, HasEnd, Pumps, Reaches, Update, with_end}
use Rattle.ca_model.specs.Speech.{In}

-- no record is busy
abbrev pub AllIdle : Server → Type 0
AllIdle y = (r : Record) → In y.records r → r.busy ≡ None

-- one record's busy put is finished
abbrev pub FinishesOne : Server → List ℕ → Server → Type 0
FinishesOne old name new = (sent : List (Handle × Fields)) × Finishes old name sent (Ok tt) new

-- The message is handled on this circuit, all busy records are finished, and updates are pumped
-- once. What came and was not read, and when bytes came, plays no part in what is answered: the
-- circuit may have any of it.
pub record Serves (h : Handle) (old : Server) (m : Fields) (new : Server) : Type 0 where
  pub e : ServerEnd
  pub has : HasEnd old h e
  pub link : LinkState
  pub waits : link.output ≡ e.link.output
  pub replies : List Fields
  pub action : Action
  pub handled : Server
  pub handles : Handles old h (record e { link = link }) m replies action handled
  -- other circuits may end out of memory for its write
  pub gone : Handle → Bool
  pub goes_on : gone h ≡ false
  pub reached : Server
  pub reaches : Reaches action gone handled reached
  pub names : List (List ℕ)
  pub idle : Server
  pub finishes : FoldsTo FinishesOne reached names idle
  pub all : AllIdle idle
  pub updates : List Update
  pub pumps : Pumps idle h updates new
  pub stays : (after : ServerEnd) × HasEnd new h after

-- What waits on the circuit after a message is written, in one piece.
pub record Writes (h : Handle) (old : Server) (m : Fields) (text : List ℕ)
    (new : Server) : Type 0 where
  pub served : Server
  pub serves : Serves h old m served
  pub e : ServerEnd
  pub has : HasEnd served h e
  pub is : text ≡ e.link.output
  pub leaves : new ≡ with_end h
      (record e { link = with_handed (length e.link.output) e.link }) served

-- For these messages in a row this text is written, and new is left. It is the text of all of them,
-- in whatever pieces it goes out.
abbrev pub Answers : Handle → Server → List Fields → List ℕ → Server → Type 0
Answers h old [] text new = (text ≡ []) × (new ≡ old)
Answers h old (m ∷ ms) text new =
    (first : List ℕ) × (rest : List ℕ) × (mid : Server) × Writes h old m first mid
    × Answers h mid ms rest new × (text ≡ first ++ rest)

-- These messages are answered by this text, as the first on the first circuit of a server with
-- these records under these rules.
pub record Answered (rules : List Rule) (states : List RecordState) (ms : List Fields)
    (text : List ℕ) : Type 0 where
  pub h : Handle
  pub start : Server
  pub accepts : Accepts (new_server server_port 0 rules states) (Ok h) start
  pub new : Server
  pub answers : Answers h start ms text new
