use Rattle.std.proofs.Common.{◌≡◌, ◌++◌, List, length, map}
use Rattle.ca_wire.specs.Fields.{Fields}
use Rattle.ca_dgram.proofs.Packings.{AreFull}
use Rattle.ca_dgram.proofs.packing.pack_replies.Given as goal

abbrev pub invariant-loop-rest : goal.invariant-loop-rest
invariant-loop-rest l = (done : List Fields) × (done ++ l.rest ≡ l.replies) × AreFull done (map (λ d. d.items) l.datagrams.items)

abbrev pub decreases-loop-rest : goal.decreases-loop-rest
decreases-loop-rest l = length l.rest
