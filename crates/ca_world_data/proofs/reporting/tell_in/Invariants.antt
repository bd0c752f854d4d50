use Rattle.std.proofs.Common.{◌≡◌, ◌≤◌, ◌+◌, ◌++◌, drop, map}
use Rattle.std.specs.Prelude.{vec_capacity, vec_len}
use Rattle.ca_world_data.specs.EndsWith.{gone_with}
use Rattle.ca_world_data.specs.Reporting.{all_gone, waits}
use Rattle.ca_world_data.specs.Seen.{entry_of, joined_of}
use Rattle.ca_world_data.proofs.reporting.tell_in.Given as goal

-- the records that are left make up the rest, and there is room for them
abbrev pub invariant-loop-record : goal.invariant-loop-record
invariant-loop-record l =
    record {
      told :
          map entry_of l.log.items ++ all_gone (gone_with l.closed l.server l.core (map joined_of l.circuits)) (drop l.record-index l.records) ≡ map entry_of l.initial.log.items ++ all_gone (gone_with l.closed l.server l.core (map joined_of l.circuits)) l.records;
      room : vec_len l.log + waits (drop l.record-index l.records) ≤ vec_capacity l.log;
    }
