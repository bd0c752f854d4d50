-- What the bytes of a datagram say.
use Rattle.std.specs.Prelude.{ℕ, ◌≢◌, ◌+◌, List, [], take, Result, Ok, Err}
use Rattle.ca_text.specs.declared.refusal.Refusal.{Refusal}
use Rattle.ca_text.specs.declared.refusal.Refusal.TheVariants.{OutOfMemory}
use Rattle.ca_wire.specs.declared.reading.Head.{Head}
use Rattle.ca_wire.specs.Fields.{Fields}
use Rattle.ca_wire.specs.Message.{Spells}
use Rattle.ca_wire.specs.Stream.{IsStream}

-- The messages of the longest good beginning: after them stands a rest that no complete message
-- begins, as one that is cut or has a bad header. One list of messages alone has this of the bytes.
pub record IsDatagram (bytes : List ℕ) (ms : List Fields) : Type 0 where
  pub rest : List ℕ
  pub stream : IsStream bytes ms rest

-- What reading answers. Only a message takes memory.
abbrev pub Reads : List ℕ → Result (List Fields) Refusal → Type 0
Reads bytes (Ok ms) = IsDatagram bytes ms
Reads bytes (Err OutOfMemory) = (ms : List Fields) × IsDatagram bytes ms × (ms ≢ [])
Reads bytes (Err _) = ⊥

-- the header and the payload at the front are this message
abbrev pub SpellsFront : List ℕ → Head → Fields → Type 0
SpellsFront bytes head m = Spells (take (head.start + head.header.size) bytes) m
