-- Statement: what one end did on a circuit, as it sends and reads messages.
use Rattle.std.specs.Prelude.{◌++◌, List, [], ◌∷◌, Option, Some, None, length}
use Rattle.ca_wire.specs.Fields.{Fields}
use Rattle.ca_model.specs.Sends.{Conduct}

-- nothing yet
abbrev pub nothing_done : Conduct
nothing_done = record { sent = []; came = []; read = [] }

-- It read this message, if there was one, after all that it had sent by then.
abbrev pub with_read : Option Fields → Conduct → Conduct
with_read None e = e
with_read (Some m) e = record e { came = e.came ++ m ∷ []; read = e.read ++ length e.sent ∷ [] }

-- It sent these messages.
abbrev pub with_all_sent : List Fields → Conduct → Conduct
with_all_sent ms e = record e { sent = e.sent ++ ms }
