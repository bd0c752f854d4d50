use Rattle.std.proofs.Common.{◌≡◌, map}
use Rattle.ca_world_data.specs.Seen.{record_of}
use Rattle.ca_world_servers.specs.Parting.{places_in, with_kept}
use Rattle.ca_world_servers.proofs.Parted.{kept_from}
use Rattle.ca_world_servers.proofs.parting.keep_waiting.Given as goal

-- with those that are left all are as they are to be
abbrev pub invariant-loop-waiting : goal.invariant-loop-waiting
invariant-loop-waiting l =
    record {
      records : kept_from l.place (map places_in l.waiting-iterator.rest.items) (map record_of l.records) ≡ with_kept (map places_in l.fn.kept.items) (map record_of l.initial.records);
    }
