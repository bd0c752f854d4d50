-- Working: the bytes of a circuit, as what messages that were sent and not read are spelled.
use Rattle.std.specs.Prelude.{ℕ, ◌≡◌, ◌≤◌, ◌++◌, Bool, true, List, [], drop, length}
use Rattle.ca_text.specs.Place.{At}
use Rattle.ca_wire.specs.Fields.{Fields}
use Rattle.ca_wire.specs.Message.{IsMessage, spelled}

-- An end of a circuit: the bytes that came and were not read; those that wait to leave it, or that
-- it left as it ended; whether it is open; the messages that it sent; and how many it read.
pub record CircuitEnd : Type 0 where
  pub came : List ℕ
  pub waiting : List ℕ
  pub is_open : Bool
  pub sent : List Fields
  pub read : ℕ

-- From one end to the other: what came and what waits is what the messages are spelled that were
-- sent and not read, followed by nothing else; once the sender ended it is a beginning of that.
pub record Streams (sender receiver : CircuitEnd) : Type 0 where
  pub within : receiver.read ≤ length sender.sent
  pub lost : List ℕ
  pub are : receiver.came ++ (sender.waiting ++ lost) ≡ spelled (drop receiver.read sender.sent)
  pub whole : sender.is_open ≡ true → lost ≡ []

-- these are messages, each field of its width
abbrev pub AreMessages : List Fields → Type 0
AreMessages ms = (i : ℕ) (m : Fields) → At ms i m → IsMessage m

-- So it is both ways, to each end that is open, if what was sent to it are messages.
pub record Meets (a b : CircuitEnd) : Type 0 where
  pub there : b.is_open ≡ true → AreMessages a.sent → Streams a b
  pub back : a.is_open ≡ true → AreMessages b.sent → Streams b a
