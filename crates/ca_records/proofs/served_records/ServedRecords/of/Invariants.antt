use Rattle.std.proofs.Common.{◌≡◌, take}
use Rattle.ca_records.specs.Store.{new_store}
use Rattle.ca_records.proofs.served_records.ServedRecords.of.Given as goal

abbrev pub invariant-loop-place : goal.invariant-loop-place
invariant-loop-place l = l.served ≡ new_store (take l.place l.records) l.fn.rules.items
