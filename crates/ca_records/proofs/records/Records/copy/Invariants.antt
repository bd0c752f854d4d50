use Rattle.std.proofs.Common.{◌≡◌, take}
use Rattle.ca_records.proofs.records.Records.copy.Given as goal

abbrev pub invariant-loop-record : goal.invariant-loop-record
invariant-loop-record l = l.copy ≡ take l.record-index l.record-items
