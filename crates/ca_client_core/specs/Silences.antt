-- Working: an ECHO on one circuit of a client. No clause of a caller needs it.
use Rattle.ca_arena.specs.declared.handle.Handle.{Handle}
use Rattle.ca_model.specs.Client.{Client, on_connection}
use Rattle.ca_client_tables.specs.Silences.{echo_end}

-- the same of the circuit of this handle
abbrev pub echoed : Handle → Client → Client
echoed c x = on_connection (echo_end x.moment) c x
