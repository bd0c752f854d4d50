use Rattle.std.proofs.Common.{◌≡◌, map, take}
use Rattle.std.specs.Prelude.{flat_map}
use Rattle.ca_model.specs.ClientEnds.{to_server}
use Rattle.ca_client_tables.proofs.addressing.to_servers.Given as goal

abbrev pub invariant-loop-index : goal.invariant-loop-index
invariant-loop-index l = l.datagrams.items ≡ flat_map (to_server (map (λ d. d.items) l.packed)) (take l.index l.servers)
