use Rattle.std.proofs.Common.{◌≡◌, drop}
use Rattle.ca_lists.specs.Walks.{each_at}
use Rattle.ca_client_tables.specs.Ending.{is_any, named_in}
use Rattle.ca_client_tables.specs.OnCircuits.{indices_of}
use Rattle.ca_client_tables.proofs.ByCircuit.{named_among}
use Rattle.ca_client_tables.proofs.clearing.is_used.Given as goal

abbrev pub invariant-loop-place : goal.invariant-loop-place
invariant-loop-place l = each_at (named_among is_any l.circuit) l.channels (drop l.place (indices_of l.on)) ≡ named_in is_any l.circuit l.channels
