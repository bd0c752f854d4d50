-- Working: ends that end with bytes left, circuit by circuit.
use Rattle.std.specs.Prelude.{ℕ, ◌==◌, ◌&&◌, List, [], ◌∷◌, if◌then◌else◌}
use Rattle.ca_ids.specs.Table.{under}
use Rattle.ca_model.specs.Client.{Client, out_bytes}
use Rattle.ca_model.specs.Server.{Server}
use Rattle.ca_model.specs.ServerSteps.{output_of}
use Rattle.ca_model.specs.ClientEvents.{client_closed}
use Rattle.ca_model.specs.ServerEvents.{server_closed}
use Rattle.ca_model.specs.World.{Joined}

-- what the open end of a circuit at client i leaves, or at server i
abbrev pub client_left : (i : ℕ) → Client → Joined → List ℕ
client_left i core j =
    if j.client == i && j.lists.client_open then out_bytes core j.at_client else []

abbrev pub server_left : (i : ℕ) → Server → Joined → List ℕ
server_left i core j =
    if j.server == i && j.lists.server_open then output_of (under core.circuits j.at_server) else []

-- the circuit, whose open end at client i, or at server i, has ended and left these bytes
abbrev pub client_over : (i : ℕ) → List ℕ → Joined → Joined
client_over i left j = if j.client == i && j.lists.client_open then client_closed left j else j

abbrev pub server_over : (i : ℕ) → List ℕ → Joined → Joined
server_over i left j = if j.server == i && j.lists.server_open then server_closed left j else j

-- each circuit with what is left there
abbrev pub with_lefts : (List ℕ → Joined → Joined) → List Joined → List (List ℕ) → List Joined
with_lefts f (j ∷ js) (left ∷ lefts) = f left j ∷ with_lefts f js lefts
with_lefts f js lefts = js
