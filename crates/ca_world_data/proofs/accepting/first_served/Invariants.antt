use Rattle.std.proofs.Common.{◌≡◌, drop}
use Rattle.std.specs.Prelude.{filter_map}
use Rattle.ca_client_core.specs.Wanted.{wanted_circuit}
use Rattle.ca_model.specs.ClientCalls.{wanted}
use Rattle.ca_world_data.specs.Accepting.{first_served}
use Rattle.ca_world_data.proofs.accepting.first_served.Given as goal

-- the first of those from this place on is the first of all
abbrev pub invariant-loop-place : goal.invariant-loop-place
invariant-loop-place l = record { left : first_served l.servers (filter_map (wanted_circuit l.core) (drop l.place l.core.order)) ≡ first_served l.servers (wanted l.core) }
