use Rattle.std.proofs.Common.{◌≡◌, drop}
use Rattle.std.specs.Prelude.{filter_map, slice_get}
use Rattle.ca_model.specs.ClientCalls.{wanted}
use Rattle.ca_client_core.specs.Wanted.{wanted_circuit}
use Rattle.ca_client_core.proofs.client.ClientCore.wanted.Given as goal

-- the one that is left of those from this place on is the one of all
abbrev pub invariant-loop-index : goal.invariant-loop-index
invariant-loop-index l = slice_get (filter_map (wanted_circuit l.self) (drop l.index l.self.order)) l.left ≡ slice_get (wanted l.self) l.place
