-- Working: a circuit on which bytes of earlier messages wait still, in front of what it
-- would have without them.
use Rattle.std.specs.Prelude.{◌++◌, ℕ, List, if◌then◌else◌}
use Rattle.ca_arena.specs.declared.handle.Handle.{Handle}
use Rattle.ca_ids.specs.Table.{same_handle, with_each}
use Rattle.ca_model.specs.Server.{Ended, Open, Server, ServerCircuit, ServerEnd}

-- an end with these bytes in front of those that wait
abbrev pub with_front : List ℕ → ServerEnd → ServerEnd
with_front b e = record e { link = record e.link { output = b ++ e.link.output } }

-- a circuit with them; an end that has ended left them too
abbrev pub fronted : List ℕ → ServerCircuit → ServerCircuit
fronted b (Open e) = Open (with_front b e)
fronted b (Ended w left) = Ended w (b ++ left)

-- of all circuits, that of this handle
abbrev pub fronted_at : Handle → List ℕ → Handle → ServerCircuit → ServerCircuit
fronted_at h b k c = if same_handle k h then fronted b c else c

-- a server with these bytes in front of those that wait on a circuit
abbrev pub fronting : Handle → List ℕ → Server → Server
fronting h b y = record y { circuits = with_each (fronted_at h b) y.circuits }
