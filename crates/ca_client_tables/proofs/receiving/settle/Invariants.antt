use Rattle.std.proofs.Common.{◌≡◌, take}
use Rattle.ca_client_tables.specs.Receiving.{all_settled_in, boosted_if}
use Rattle.ca_client_tables.proofs.receiving.settle.Given as goal

abbrev pub invariant-loop-received : goal.invariant-loop-received
invariant-loop-received l =
    boosted_if l.anomaly l.moment l.searches.entries ≡ all_settled_in l.moment (take l.received-index l.done) l.initial.searches.entries
