use Rattle.std.proofs.Common.{◌<◌, ℕ}
use Rattle.ca_records.specs.Record.{IsRecord, RecordState}
use Rattle.ca_text.specs.Place.{At}
use Rattle.ca_world_data.proofs.settings.know_records.Given as goal

-- those before this place are records
abbrev pub invariant-loop-place : goal.invariant-loop-place
invariant-loop-place l = (j : ℕ) (r : RecordState) → j < l.place → At l.records j r → IsRecord r
