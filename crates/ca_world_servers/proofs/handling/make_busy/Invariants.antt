use Rattle.std.proofs.Common.{◌≡◌, map}
use Rattle.ca_model.specs.ServerEvents.{with_record}
use Rattle.ca_world_data.specs.Seen.{place_of, record_of}
use Rattle.ca_world_data.proofs.Gone.{map_from}
use Rattle.ca_world_servers.specs.Handling.{made_busy}
use Rattle.ca_world_servers.proofs.Handled.{if_named}
use Rattle.ca_world_servers.proofs.handling.make_busy.Given as goal

-- with those that are left all are so
abbrev pub invariant-loop-record : goal.invariant-loop-record
invariant-loop-record l =
    record {
      records :
          map_from l.record-index (if_named l.name (made_busy (place_of l.put))) (map record_of l.records)
          ≡ with_record l.name (made_busy (place_of l.put)) (map record_of l.initial.records);
    }
