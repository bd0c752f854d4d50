use Rattle.std.proofs.Common.{◌≡◌, ◌≤◌, ◌+◌, ◌++◌, drop, length, map}
use Rattle.std.specs.Prelude.{vec_capacity, vec_len}
use Rattle.ca_world_data.specs.EndsWith.{gone_with}
use Rattle.ca_world_data.specs.Reporting.{gone_of}
use Rattle.ca_world_data.specs.Seen.{entry_of, joined_of}
use Rattle.ca_world_data.proofs.reporting.tell_of.Given as goal

-- the puts that are left make up the rest, and there is room for them
abbrev pub invariant-loop-put : goal.invariant-loop-put
invariant-loop-put l =
    record {
      told :
          map entry_of l.log.items ++ gone_of (gone_with l.closed l.server l.core (map joined_of l.circuits)) (drop l.put-index l.waiting) ≡ map entry_of l.initial.log.items ++ gone_of (gone_with l.closed l.server l.core (map joined_of l.circuits)) l.waiting;
      len : vec_len l.log + length (drop l.put-index l.waiting) ≤ vec_len l.initial.log + length l.waiting;
      capacity : vec_capacity l.log ≡ vec_capacity l.initial.log;
    }
