use Rattle.std.proofs.Common.{◌≡◌, map}
use Rattle.ca_model.specs.ServerEvents.{without_puts}
use Rattle.ca_world_data.specs.EndsWith.{gone_with}
use Rattle.ca_world_data.specs.Seen.{joined_of, record_of}
use Rattle.ca_world_data.proofs.Gone.{map_from}
use Rattle.ca_world_data.proofs.reporting.withdraw_gone.Given as goal

-- with those that are left all are without them
abbrev pub invariant-loop-record : goal.invariant-loop-record
invariant-loop-record l =
    record {
      records :
          map_from l.record-index (without_puts (gone_with l.closed l.server l.core (map joined_of l.circuits))) (map record_of l.records)
          ≡ map (without_puts (gone_with l.closed l.server l.core (map joined_of l.circuits))) (map record_of l.initial.records);
    }
