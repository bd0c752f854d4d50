use Rattle.std.proofs.Common.{◌≡◌, ◌++◌, drop, map}
use Rattle.ca_world_data.specs.Seen.{entry_of}
use Rattle.ca_world_data.specs.Withdrawing.{all_withdrawn}
use Rattle.ca_world_data.proofs.withdrawing.withdrawals.Given as goal

-- the records that are left make up the rest
abbrev pub invariant-loop-record : goal.invariant-loop-record
invariant-loop-record l = record { all : map entry_of l.all.items ++ all_withdrawn l.circuit (drop l.record-index l.records) ≡ all_withdrawn l.circuit l.records }
