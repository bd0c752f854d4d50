-- Working: what a moment asks of one circuit, and its ECHO. No clause of a caller needs it.
use Rattle.std.specs.Prelude.{ℕ, [], ◌∷◌, Option, option_map, unwrap_or}
use Rattle.ca_link.specs.declared.keep.Keep.{Keep}
use Rattle.ca_link.specs.declared.keep.Keep.TheVariants.{Idle}
use Rattle.ca_link.specs.Link.{kept, noted, with_sent}
use Rattle.ca_model.specs.Client.{Connection, ClientCircuit}
use Rattle.ca_text.specs.declared.command.Command.TheVariants as command
use Rattle.ca_wire.specs.Messages.{header_only}

-- what a moment asks of an end that may be there
abbrev pub asked_in : ℕ → Option Connection → Keep
asked_in moment o = unwrap_or (option_map (λ (e : Connection). kept moment e.link) o) Idle

-- an end on which an ECHO waits; if its silence asked for one this is noted
abbrev pub echo_end : ℕ → Connection → Connection
echo_end moment e =
    record e {
      link = noted (kept moment e.link) (with_sent (header_only command.Echo ∷ []) e.link);
    }

-- the same of a circuit, if it is connected
abbrev pub echo_in : ℕ → ClientCircuit → ClientCircuit
echo_in moment d = record d { connection = option_map (echo_end moment) d.connection }
