-- Working: what a datagram asks of the records of a server.
use Rattle.std.specs.Prelude.{ℕ, ◌==◌, ◌&&◌, Bool, List, [], ◌∷◌, if◌then◌else◌, is_some}
use Rattle.ca_records.specs.Puts.{record_named}
use Rattle.ca_records.specs.Store.{Store, records_of}
use Rattle.ca_text.specs.Command.{command_number}
use Rattle.ca_text.specs.declared.command.Command.TheVariants as command
use Rattle.ca_wire.specs.Fields.{Fields}
use Rattle.ca_wire.specs.Messages.{search_reply, text_in}

-- the message is a search for a record that is there
abbrev pub wants_answer : Store → Fields → Bool
wants_answer s m =
    m.command == command_number command.Search
    && is_some (record_named (records_of s) (text_in m.payload))

-- the reply that is due for it: `search_answer` of the server round these records
abbrev pub answer_of : (port : ℕ) → Store → Fields → List Fields
answer_of port s m = if wants_answer s m then search_reply port m ∷ [] else []
