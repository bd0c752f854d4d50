use Rattle.std.proofs.Common.{◌≡◌, ◌≤◌, ◌+◌, ◌++◌, length}
use Rattle.std.specs.Prelude.{vec_capacity, vec_len}
use Rattle.ca_world_data.proofs.entries.push_all.Given as goal

-- the entries that are left make up the rest, and there is room for them
abbrev pub invariant-loop-entry : goal.invariant-loop-entry
invariant-loop-entry l =
    record {
      entries : l.log.items ++ l.entry-iterator.rest.items ≡ l.initial.log.items ++ l.fn.entries.items;
      room : vec_len l.log + length l.entry-iterator.rest.items ≤ vec_capacity l.log;
      len : vec_len l.log + length l.entry-iterator.rest.items ≡ vec_len l.initial.log + length l.fn.entries.items;
      capacity : vec_capacity l.log ≡ vec_capacity l.initial.log;
    }
