use Rattle.std.proofs.Common.{◌≡◌}
use Rattle.ca_client.specs.Calls.{RecyclesBelow}
use Rattle.ca_client.proofs.issuing.recycle_all.Given as goal

abbrev pub invariant-loop-cell : goal.invariant-loop-cell
invariant-loop-cell l = record { below : RecyclesBelow l.cell l.fn.seat l.seat; same : l.seat.board ≡ l.board }
