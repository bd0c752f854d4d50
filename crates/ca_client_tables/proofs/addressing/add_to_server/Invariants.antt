use Rattle.std.proofs.Common.{◌≡◌, ◌++◌, map, take}
use Rattle.ca_model.specs.ClientEnds.{to_server}
use Rattle.ca_client_tables.proofs.addressing.add_to_server.Given as goal

abbrev pub invariant-loop-index : goal.invariant-loop-index
invariant-loop-index l = l.datagrams.items ≡ l.initial.datagrams.items ++ to_server (map (λ d. d.items) (take l.index l.packed)) l.server
