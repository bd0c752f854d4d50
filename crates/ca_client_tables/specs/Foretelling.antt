-- Working: what a search reply makes a client send, told before it is taken. No clause of a caller
-- needs it.
use Rattle.std.specs.Prelude.{Bool, true, Option, Some, None}
use Rattle.ca_arena.specs.declared.handle.Handle.{Handle}
use Rattle.ca_ids.specs.Table.{Table}
use Rattle.ca_ids.specs.Wire.{wire_of}
use Rattle.ca_wire.specs.Fields.{Fields}
use Rattle.ca_wire.specs.Messages.{create_request}
use Rattle.ca_model.specs.Client.{Channel, ClientCircuit}
use Rattle.ca_model.specs.Ends.{Address}
use Rattle.ca_model.specs.Hears.{found_at}
use Rattle.ca_client_tables.specs.Finding.{circuit_in, searched_in}
use Rattle.ca_client_tables.specs.declared.foretelling.Creation.{Creation}

-- the CREATE_CHAN of a channel that was found, if the circuit to its server is connected
abbrev pub creation_on : Handle → Channel → Option (Handle × Bool) → Option Creation
creation_on h here (Some (c, true)) =
    Some (record { circuit = c; channel = h; message = create_request (wire_of h) here.name })
creation_on h here there = None

-- a channel was found at this address, if it is searched for
abbrev pub creation_at : Address → Table ClientCircuit → Option (Handle × Channel) → Option Creation
creation_at a circuits (Some (h, here)) = creation_on h here (circuit_in a here.priority circuits)
creation_at a circuits None = None

-- a search reply came from this address
abbrev pub creation_by : Table Channel → Table ClientCircuit → Address → Fields → Option Creation
creation_by channels circuits from m =
    creation_at (found_at from m) circuits (searched_in m.p2 channels)
