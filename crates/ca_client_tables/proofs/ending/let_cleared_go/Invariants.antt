use Rattle.std.proofs.Common.{drop}
use Rattle.ca_model.specs.Client.{is_cleared}
use Rattle.ca_client_tables.specs.Ending.{gone, gone_at, sought}
use Rattle.ca_client_tables.specs.OnCircuits.{indices_of}
use Rattle.ca_client_tables.specs.Sound.{IsClient}
use Rattle.ca_client_tables.proofs.ByCircuit.{AreLeft}
use Rattle.ca_client_tables.proofs.ending.let_cleared_go.Given as goal

abbrev pub invariant-loop-place : goal.invariant-loop-place
invariant-loop-place l = record {
  left : AreLeft gone is_cleared (gone_at l.circuit) l.circuit (sought l.initial.channels l.initial.searches.entries) (sought l.channels l.searches.entries) (drop l.place (indices_of l.on));
  client : IsClient l.channels l.searches.entries;
}
