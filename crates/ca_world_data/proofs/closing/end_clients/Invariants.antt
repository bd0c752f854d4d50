use Rattle.std.proofs.Common.{◌≡◌, map}
use Rattle.ca_world_data.specs.Closing.{client_over, with_lefts}
use Rattle.ca_world_data.specs.Seen.{joined_of}
use Rattle.ca_world_data.proofs.Closings.{lefts_from}
use Rattle.ca_world_data.proofs.closing.end_clients.Given as goal

-- with those that are left all are as they are to be
abbrev pub invariant-loop-left : goal.invariant-loop-left
invariant-loop-left l =
    record {
      circuits : lefts_from l.place (client_over l.client) (map joined_of l.circuits.items) l.left-iterator.rest.items ≡ with_lefts (client_over l.client) (map joined_of l.initial.circuits.items) l.fn.lefts.items;
    }
