use Rattle.std.proofs.Common.{◌≡◌, ◌++◌, ◌≤◌, drop, length, vec_capacity}
use Rattle.ca_lists.specs.Walks.{each_at}
use Rattle.ca_model.specs.Client.{is_live}
use Rattle.ca_client_tables.specs.Ending.{named_in}
use Rattle.ca_client_tables.specs.OnCircuits.{indices_of}
use Rattle.ca_client_tables.proofs.ByCircuit.{named_among}
use Rattle.ca_client_tables.proofs.live_channels.list_live.Given as goal

abbrev pub invariant-loop-place : goal.invariant-loop-place
invariant-loop-place l = record {
  items : l.room.items ++ each_at (named_among is_live l.circuit) l.channels (drop l.place (indices_of l.on)) ≡ named_in is_live l.circuit l.channels;
  room : length (named_in is_live l.circuit l.channels) ≤ vec_capacity l.room;
}
