use Rattle.std.proofs.Common.{◌≡◌, ◌≤◌, ℕ, map}
use Rattle.ca_model.specs.ServerEvents.{with_record}
use Rattle.ca_text.specs.Place.{At}
use Rattle.ca_world_data.specs.declared.server.RecordSide.{RecordSide}
use Rattle.ca_world_data.specs.Seen.{place_of, record_of}
use Rattle.ca_world_data.proofs.Gone.{map_from}
use Rattle.ca_world_servers.specs.Handling.{MayWait, with_waiting}
use Rattle.ca_world_servers.proofs.Handled.{if_named}
use Rattle.ca_world_servers.proofs.handling.add_waiting.Given as goal

-- with those that are left all are so, and these have room
abbrev pub invariant-loop-record : goal.invariant-loop-record
invariant-loop-record l =
    record {
      records :
          map_from l.record-index (if_named l.name (with_waiting (place_of l.put))) (map record_of l.records)
          ≡ with_record l.name (with_waiting (place_of l.put)) (map record_of l.initial.records);
      room : (k : ℕ) (r : RecordSide) → l.record-index ≤ k → At l.records k r → MayWait l.name r;
    }
