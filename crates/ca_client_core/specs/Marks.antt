-- Working: what was sent on circuits is taken back. No clause of a caller needs it.
use Rattle.std.specs.Prelude.{List, [], ◌∷◌}
use Rattle.ca_arena.specs.declared.handle.Handle.{Handle}
use Rattle.ca_model.specs.Client.{Client, connection_at, on_connection}
use Rattle.ca_client_core.specs.declared.marks.CircuitMark.{CircuitMark}
use Rattle.ca_client_tables.specs.Marks.{end_restored, mark_by}

-- the mark of a circuit as it is now
abbrev pub mark_at : Client → Handle → CircuitMark
mark_at x c = record { circuit = c; mark = mark_by (connection_at x c) }

-- the client with a circuit as it was at this mark
abbrev pub circuit_restored : CircuitMark → Client → Client
circuit_restored m x = on_connection (end_restored m.mark) m.circuit x

-- the client with what was sent after these marks taken back, from the last to the first
abbrev pub undone : List CircuitMark → Client → Client
undone [] x = x
undone (m ∷ ms) x = circuit_restored m (undone ms x)
