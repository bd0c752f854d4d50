-- Working: which records puts wait for, by the log.
use Rattle.std.specs.Prelude.{ℕ, List}
use Rattle.ca_text.specs.Place.{At}
use Rattle.ca_model.specs.History.{Entry}
use Rattle.ca_model.specs.Speech.{In}
use Rattle.ca_model.specs.Known.{waiting}
use Rattle.ca_model.specs.World.{RecordSide, ServerSide, World}
use Rattle.ca_laws_runs.specs.Entries.{titles}

-- Each put that waits by this log waits for one of these records.
abbrev pub IsAwaiting : List Entry → List RecordSide → Type 0
IsAwaiting log rs =
    (r : ℕ) (p : ℕ × ℕ) → In (waiting log r) p → (name : List ℕ) × In (titles rs) (name, r)

-- So it is of the present life of each server.
abbrev pub AllAwaiting : World → Type 0
AllAwaiting w =
    (i : ℕ) (y : ServerSide) (log : List Entry) → At w.servers i y → At w.server_logs y.life log
    → IsAwaiting log y.records
