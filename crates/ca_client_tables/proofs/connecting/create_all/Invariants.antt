use Rattle.std.proofs.Common.{◌≡◌, drop}
use Rattle.ca_link.specs.Link.{with_sent}
use Rattle.ca_lists.specs.Walks.{each_at}
use Rattle.ca_client_tables.specs.Connecting.{creations_in, creations_of}
use Rattle.ca_client_tables.specs.OnCircuits.{indices_of}
use Rattle.ca_client_tables.proofs.connecting.create_all.Given as goal

abbrev pub invariant-loop-place : goal.invariant-loop-place
invariant-loop-place l =
    with_sent (each_at (creations_of l.circuit) l.channels (drop l.place (indices_of l.on))) l.link ≡ with_sent (creations_in l.circuit l.channels) l.initial.link
