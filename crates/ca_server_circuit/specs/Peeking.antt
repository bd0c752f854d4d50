-- Vocabulary: what is asked of a circuit before its next message is handled, of its channels by
-- their SIDs, and of its client (section "Virtual Circuit").
use Rattle.std.specs.Prelude.{ℕ, ◌≡◌, ◌==◌, ◌||◌, Bool, false, List, Option, None, Some}
use Rattle.ca_arena.specs.declared.handle.Handle.{Handle}
use Rattle.ca_ids.specs.Table.{held}
use Rattle.ca_ids.specs.Wire.{wire_of}
use Rattle.ca_text.specs.Command.{command_number}
use Rattle.ca_text.specs.declared.command.Command.TheVariants as command
use Rattle.ca_wire.specs.Fields.{Fields}
use Rattle.ca_model.specs.Ends.{Peer}
use Rattle.ca_model.specs.Server.{Ended, Open, OpenChannel, ServerCircuit, ServerEnd}
use Rattle.ca_model.specs.Speech.{In}

-- The SID stands for an open channel whose record was not removed, which has
-- this name; or for none.
abbrev pub NamesBy : ServerEnd → (sid : ℕ) → Option (List ℕ) → Type 0
NamesBy e sid (Some name) =
    ((c : Handle × OpenChannel) × In (held e.channels) c × (wire_of c.0 ≡ sid)
    × (c.1.retired ≡ false))
    × ((c : Handle × OpenChannel) → In (held e.channels) c → wire_of c.0 ≡ sid → c.1.retired ≡ false
    → c.1.name ≡ name)
NamesBy e sid None =
    (c : Handle × OpenChannel) → In (held e.channels) c → wire_of c.0 ≡ sid → c.1.retired ≡ false
    → ⊥

-- the same of a circuit, if its end is open
abbrev pub NamesAt : ServerCircuit → (sid : ℕ) → Option (List ℕ) → Type 0
NamesAt (Open e) sid name = NamesBy e sid name
NamesAt (Ended w left) sid name = name ≡ None

-- how the client of a circuit named itself, if its end is open
abbrev pub peer_on : ServerCircuit → Option Peer
peer_on (Open e) = Some e.peer
peer_on (Ended w left) = None

-- the number is that of a command that writes
abbrev pub is_write : ℕ → Bool
is_write n = n == command_number command.Write || n == command_number command.WriteNotify
