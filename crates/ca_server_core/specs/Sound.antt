-- Working: what holds of the records and the circuits of a server.
use Rattle.std.specs.Prelude.{ℕ, ◌≡◌, List, Some}
use Rattle.ca_arena.specs.declared.handle.Handle.{Handle}
use Rattle.ca_ids.specs.Table.{Table, under}
use Rattle.ca_records.specs.Puts.{Record, WaitingPut}
use Rattle.ca_text.specs.Place.{At}
use Rattle.ca_model.specs.Server.{Open, ServerCircuit, ServerEnd}
use Rattle.ca_server_circuit.specs.Sound.{EndIsSound}

-- each open end is sound, and each put that waits has one
pub record IsSound (rs : List Record) (t : Table ServerCircuit) : Type 0 where
  pub ends : (h : Handle) (e : ServerEnd) → under t h ≡ Some (Open e) → EndIsSound rs h e
  pub waits : (i : ℕ) (r : Record) (k : ℕ) (w : WaitingPut) → At rs i r → At r.waiting k w
      → (e : ServerEnd) × (under t w.put.circuit ≡ Some (Open e))
