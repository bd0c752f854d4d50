use Rattle.std.proofs.Common.{◌≡◌, map}
use Rattle.std.specs.Prelude.{if◌then◌else◌}
use Rattle.std.specs.Str.{bytes_eq}
use Rattle.ca_model.specs.ServerEvents.{next_busy, with_record}
use Rattle.ca_world_data.specs.Seen.{record_of}
use Rattle.ca_world_data.proofs.Gone.{map_from}
use Rattle.ca_world.proofs.next_write.next_records.Given as goal

-- with those that are left all are changed
abbrev pub invariant-loop-record : goal.invariant-loop-record
invariant-loop-record l =
    record {
      records :
          map_from l.record-index (λ r. if bytes_eq r.name l.initial.name then next_busy r else r) (map record_of l.records)
          ≡ with_record l.initial.name next_busy (map record_of l.initial.records);
    }
