-- Working: the records that the log of a server's life has added and not removed.
use Rattle.std.specs.Prelude.{ℕ, List}
use Rattle.ca_records.specs.Record.{RecordState}
use Rattle.ca_text.specs.Place.{At}
use Rattle.ca_model.specs.History.{Added, Entry, Removed}
use Rattle.ca_model.specs.Speech.{In}
use Rattle.ca_model.specs.World.{RecordSide, ServerSide, World}
use Rattle.ca_laws_runs.specs.Entries.{titles}

-- Each record that the log added, and did not remove, is there under its name and number.
abbrev pub IsListed : List Entry → List RecordSide → Type 0
IsListed log rs =
    (r : ℕ) (s : RecordState) → In log (Added r s) → (In log (Removed r) → ⊥)
    → In (titles rs) (s.name, r)

-- So it is of each server and of the log of its life.
abbrev pub AllListed : World → Type 0
AllListed w =
    (i : ℕ) (y : ServerSide) (log : List Entry) → At w.servers i y → At w.server_logs y.life log
    → IsListed log y.records
