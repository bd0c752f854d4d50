use Rattle.std.proofs.Common.{◌≡◌, ◌+◌, ◌≤◌, ◌++◌, length, map, vec_len}
use Rattle.std.specs.Vec.{vec_capacity}
use Rattle.ca_client_tables.specs.Noting.{as_sent}
use Rattle.ca_client_core.specs.ForHistories.{sending_of}
use Rattle.ca_client_core.proofs.for_datagrams.push_creations.Given as goal

-- with those that are left all are as they are to be, and there is room for them
abbrev pub invariant-loop-creation : goal.invariant-loop-creation
invariant-loop-creation l =
    record {
      room : vec_len l.sent + length l.creation-iterator.rest.items ≤ vec_capacity l.sent;
      all : map sending_of l.sent.items ++ map as_sent l.creation-iterator.rest.items ≡ map sending_of l.initial.sent.items ++ map as_sent l.fn.creations.items;
    }
