use Rattle.std.proofs.Common.{drop}
use Rattle.ca_client_tables.specs.Ending.{again, back_at, is_kept, sought}
use Rattle.ca_client_tables.specs.OnCircuits.{indices_of}
use Rattle.ca_client_tables.specs.Sound.{IsClient}
use Rattle.ca_client_tables.proofs.ByCircuit.{AreLeft}
use Rattle.ca_client_tables.proofs.ending.search_again.Given as goal

abbrev pub invariant-loop-place : goal.invariant-loop-place
invariant-loop-place l = record {
  left : AreLeft (again l.moment) is_kept (back_at l.circuit) l.circuit (sought l.initial.channels l.initial.searches.entries) (sought l.channels l.searches.entries) (drop l.place (indices_of l.on));
  client : IsClient l.channels l.searches.entries;
}
