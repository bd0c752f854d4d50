use Rattle.std.proofs.Common.{◌≡◌, length}
use Rattle.ca_client_core.specs.Notices.{completions}
use Rattle.ca_client.specs.Filling.{Filling}
use Rattle.ca_client.proofs.filling.fill_all.Given as goal

abbrev pub invariant-loop-request : goal.invariant-loop-request
invariant-loop-request l = record {
  filling : Filling l.tickets.items l.fn.seat l.fn.notices l.seat l.notices;
  same : l.seat.board ≡ l.board;
}

abbrev pub decreases-loop-request : goal.decreases-loop-request
decreases-loop-request l = length (completions l.notices)
