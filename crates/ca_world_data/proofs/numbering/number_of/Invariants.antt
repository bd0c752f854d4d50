use Rattle.std.proofs.Common.{◌≡◌, drop, map}
use Rattle.ca_model.specs.ServerEvents.{number_of}
use Rattle.ca_world_data.specs.Seen.{record_of}
use Rattle.ca_world_data.proofs.numbering.number_of.Given as goal

-- none before this place has the name
abbrev pub invariant-loop-record : goal.invariant-loop-record
invariant-loop-record l = record { number : number_of l.name (map record_of (drop l.record-index l.records)) ≡ number_of l.name (map record_of l.records) }
