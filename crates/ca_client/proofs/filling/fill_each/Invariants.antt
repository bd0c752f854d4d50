use Rattle.std.proofs.Common.{◌≡◌}
use Rattle.ca_client.specs.Draining.{Draining}
use Rattle.ca_client.proofs.filling.fill_each.Given as goal

abbrev pub invariant-loop-index : goal.invariant-loop-index
invariant-loop-index l = record {
  draining : Draining l.tickets.items l.fn.seat l.fn.closings.items l.seat l.closings.items l.index;
  same : l.seat.board ≡ l.board;
}
