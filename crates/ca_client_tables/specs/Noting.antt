-- Working: the CREATE_CHANs that the messages of a datagram make a client send, noted as the
-- messages are received. No clause of a caller needs it.
use Rattle.std.specs.Prelude.{◌≡◌, ◌≢◌, ◌==◌, ◌≤◌, ◌++◌, List, Option, None, Result, Ok, Err}
use Rattle.std.specs.Prelude.{if◌then◌else◌, length, map, option_to_list, []}
use Rattle.std.specs.declared.alloc.AllocError.{AllocError}
use Rattle.ca_ids.specs.Table.{Table}
use Rattle.ca_text.specs.Command.{command_number}
use Rattle.ca_text.specs.declared.command.Command.TheVariants as command
use Rattle.ca_wire.specs.Fields.{Fields}
use Rattle.ca_model.specs.Answers.{Sending}
use Rattle.ca_model.specs.Answers as answer
use Rattle.ca_model.specs.Client.{Channel, Client, ClientCircuit}
use Rattle.ca_model.specs.ClientEnds.{ReceivesAll}
use Rattle.ca_model.specs.Ends.{Address}
use Rattle.ca_model.specs.Hears.{Effect}
use Rattle.ca_client_tables.specs.Foretelling.{creation_by}
use Rattle.ca_client_tables.specs.Receiving.{HalfParts, Parts, ReceivesIn, all_settled}
use Rattle.ca_client_tables.specs.Receiving.{opened_parts, parts_of, with_parts}
use Rattle.ca_client_tables.specs.declared.foretelling.Creation.{Creation}
use Rattle.ca_client_tables.specs.declared.noting.Noted.{Noted}
use Rattle.ca_client_tables.specs.declared.receiving.Received.{Received}

-- a channel's CREATE_CHAN, as it is sent
abbrev pub as_sent : Creation → Sending
as_sent o = record { circuit = o.circuit; message = o.message; aim = answer.Create o.channel }

-- the CREATE_CHAN that a message of a datagram from this address makes a client send
abbrev pub creation_in : Table Channel → Table ClientCircuit → Address → Fields → Option Creation
creation_in channels circuits from m =
    if m.command == command_number command.Search then creation_by channels circuits from m
    else None

-- A message was received, and its CREATE_CHAN is after those before; or there was no memory for it,
-- and nothing is changed.
abbrev pub NotesOne : HalfParts → Address → Fields → List Creation → Result Received AllocError
    → List Creation → HalfParts → Type 0
NotesOne old from m cs (Ok d) cs' new =
    ReceivesIn old from m (Ok d) new
    × (cs' ≡ cs ++ option_to_list (creation_in old.channels (opened_parts old).circuits from m))
NotesOne old from m cs (Err _) cs' new = (new ≡ old) × (cs' ≡ cs)

-- These messages had their effects, one after another, and sent these; the searches
-- are still to follow.
abbrev pub HaveSent : Parts → Address → List Fields → List Received → List Creation → Parts → Type 0
HaveSent old from ms ds cs new =
    (x : Client) → parts_of x ≡ old
    → (e : Effect) × ReceivesAll from x ms e × (e.notices ≡ []) × (e.sent ≡ map as_sent cs)
    × (e.core ≡ all_settled ds (with_parts new x))

-- They had, and that is noted; or there was no memory for one, and nothing is changed.
abbrev pub NotesAll : Parts → Address → List Fields → Result Noted AllocError → Parts → Type 0
NotesAll old from ms (Ok n) new =
    HaveSent old from ms n.done.items n.sent.items new × (length n.sent.items ≤ length ms)
NotesAll old from ms (Err _) new = (ms ≢ []) × (new ≡ old)
