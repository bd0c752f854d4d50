use Rattle.std.proofs.Common.{◌≡◌, ◌+◌, drop}
use Rattle.ca_world_data.specs.Reporting.{waits}
use Rattle.ca_world_data.proofs.reporting.count_waits.Given as goal

-- with those of the records that are left they are all
abbrev pub invariant-loop-record : goal.invariant-loop-record
invariant-loop-record l = record { puts : l.puts + waits (drop l.record-index l.records) ≡ waits l.records }
