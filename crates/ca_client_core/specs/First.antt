-- Working: what comes first on a circuit of a client. No clause of a caller needs it.
use Rattle.ca_arena.specs.declared.handle.Handle.{Handle}
use Rattle.ca_wire.specs.Fields.{Fields}
use Rattle.ca_wire.specs.declared.reading.Head.{Head}
use Rattle.ca_model.specs.Client.{Client, connection_at, on_connection}
use Rattle.ca_client_tables.specs.declared.first.First.{First}
use Rattle.ca_client_tables.specs.First.{FirstAt, first_at, in_bytes, without_front}

-- on a circuit of a client
abbrev pub FirstOn : Client → Handle → First → Type 0
FirstOn x c r = FirstAt (connection_at x c) r

-- the first message there, which has this header
abbrev pub first_on : Client → Handle → Head → Fields
first_on x c head = first_at (in_bytes (connection_at x c)) head

-- the client without it
abbrev pub without_first : Handle → Head → Client → Client
without_first c head x = on_connection (without_front head) c x
