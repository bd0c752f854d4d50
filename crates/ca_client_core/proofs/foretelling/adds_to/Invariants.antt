use Rattle.std.proofs.Common.{◌≡◌, ◌++◌, drop, map}
use Rattle.ca_client_core.specs.ForHistories.{sending_of}
use Rattle.ca_client_core.specs.Foretelling.{adds_sent}
use Rattle.ca_client_core.proofs.foretelling.adds_to.Given as goal

-- the subscriptions that are left make up the rest
abbrev pub invariant-loop-index : goal.invariant-loop-index
invariant-loop-index l =
    record { adds : map sending_of l.adds.items ++ adds_sent l.circuit l.sid (drop l.index l.standing) ≡ adds_sent l.circuit l.sid l.standing }
