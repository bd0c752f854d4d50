-- Working: servers whose ends that ended were reported.
use Rattle.std.specs.Prelude.{ℕ, ◌≡◌, List, None}
use Rattle.ca_arena.specs.Arena.{Place}
use Rattle.ca_ids.specs.Table.{Table}
use Rattle.ca_text.specs.Place.{At}
use Rattle.ca_model.specs.Server.{Server, ServerCircuit}
use Rattle.ca_model.specs.ServerEvents.{left_by}
use Rattle.ca_model.specs.World.{ServerSide}

-- no circuit has an end that ended and was not reported
abbrev pub IsReportedTable : Table ServerCircuit → Type 0
IsReportedTable t = (n : ℕ) (p : Place ServerCircuit) → At t n p → left_by p.value ≡ None

abbrev pub HasReported : Server → Type 0
HasReported y = IsReportedTable y.circuits

abbrev pub AllReported : List ServerSide → Type 0
AllReported ys = (i : ℕ) (y : ServerSide) → At ys i y → HasReported y.core
