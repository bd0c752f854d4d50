use Rattle.std.proofs.Common.{◌≡◌, ◌++◌, drop, map}
use Rattle.ca_world_data.specs.Seen.{entry_of}
use Rattle.ca_world_servers.specs.Losing.{removed_all}
use Rattle.ca_world_servers.proofs.losing.removal_entries.Given as goal

-- the records that are left make up the rest
abbrev pub invariant-loop-record : goal.invariant-loop-record
invariant-loop-record l = record { all : map entry_of l.all.items ++ removed_all l.name (drop l.record-index l.records) ≡ removed_all l.name l.records }
