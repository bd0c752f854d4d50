-- Vocabulary: the puts of a record, for a recorder of histories.
use Rattle.std.specs.Prelude.{ℕ}
use Rattle.ca_dbr.specs.Elements.{Elements}
use Rattle.ca_text.specs.Place.{At}
use Rattle.ca_records.specs.declared.puts.Put.{Put}
use Rattle.ca_records.specs.Puts.{Record}

-- this put waits for the record after n others
abbrev pub WaitsAt : Record → ℕ → Put → Type 0
WaitsAt r place p = (value : Elements) × At r.waiting place (record { put = p; value = value })
