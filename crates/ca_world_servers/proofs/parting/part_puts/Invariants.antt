use Rattle.std.proofs.Common.{◌≡◌, ◌++◌, drop, map}
use Rattle.ca_world_data.specs.Seen.{entry_of, record_of}
use Rattle.ca_world_servers.specs.Parting.{all_gone, all_kept, places_in}
use Rattle.ca_world_servers.proofs.parting.part_puts.Given as goal

-- the records that are left make up the rest
abbrev pub invariant-loop-record : goal.invariant-loop-record
invariant-loop-record l =
    record {
      kept : map places_in l.kept.items ++ all_kept l.core l.circuit l.sid (map record_of (drop l.record-index l.records)) ≡ all_kept l.core l.circuit l.sid (map record_of l.records);
      told : map entry_of l.told.items ++ all_gone l.core l.circuit l.sid (map record_of (drop l.record-index l.records)) ≡ all_gone l.core l.circuit l.sid (map record_of l.records);
    }
