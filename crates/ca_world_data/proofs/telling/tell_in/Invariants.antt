use Rattle.std.proofs.Common.{◌≡◌, ◌≤◌, ◌+◌, ◌++◌, length, map}
use Rattle.std.specs.Prelude.{vec_capacity, vec_len}
use Rattle.ca_model.specs.ClientEvents.{lines_of}
use Rattle.ca_model.specs.History.{OfCircuit}
use Rattle.ca_world_data.specs.Seen.{line_of, names_of}
use Rattle.ca_world_data.proofs.telling.tell_in.Given as goal

-- the lines of the notices that are left make up the rest, and there is room for them
abbrev pub invariant-loop-notice : goal.invariant-loop-notice
invariant-loop-notice l =
    record {
      lines : map line_of l.log.items ++ lines_of OfCircuit (names_of l.names) l.notices ≡ map line_of l.initial.log.items ++ lines_of OfCircuit (names_of l.names) l.fn.notices;
      room : vec_len l.log + length l.notices ≤ vec_capacity l.log;
      len : vec_len l.log + length l.notices ≡ vec_len l.initial.log + length l.fn.notices;
      capacity : vec_capacity l.log ≡ vec_capacity l.initial.log;
    }

abbrev pub decreases-loop-notice : goal.decreases-loop-notice
decreases-loop-notice l = length l.notices
