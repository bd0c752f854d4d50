use Rattle.std.proofs.Common.{◌≡◌, ◌<◌, ℕ, map}
use Rattle.ca_text.specs.Place.{At}
use Rattle.ca_world_data.specs.declared.server.RecordSide.{RecordSide}
use Rattle.ca_world_data.specs.Seen.{record_of}
use Rattle.ca_world_servers.specs.Handling.{MayWait}
use Rattle.ca_world_servers.proofs.handling.reserve_waiting.Given as goal

-- nothing has changed, and those before this place have room
abbrev pub invariant-loop-record : goal.invariant-loop-record
invariant-loop-record l =
    record {
      same : map record_of l.records ≡ map record_of l.initial.records;
      room : (k : ℕ) (r : RecordSide) → k < l.record-index → At l.records k r → MayWait l.name r;
    }
