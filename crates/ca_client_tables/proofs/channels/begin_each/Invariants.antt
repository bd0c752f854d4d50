use Rattle.std.proofs.Common.{drop, option_map}
use Rattle.ca_lists.specs.Walks.{IsLeft}
use Rattle.ca_model.specs.ClientEnds.{creating}
use Rattle.ca_client_tables.specs.OnCircuits.{indices_of}
use Rattle.ca_client_tables.proofs.channels.begin_each.Given as goal

abbrev pub invariant-loop-place : goal.invariant-loop-place
invariant-loop-place l = IsLeft (option_map (creating l.circuit)) l.initial.table l.table (drop l.place (indices_of l.on))
