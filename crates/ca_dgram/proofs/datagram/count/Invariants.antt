use Rattle.std.proofs.Common.{◌≡◌, ◌+◌, ◌≤◌, List, length}
use Rattle.ca_wire.specs.Fields.{Fields}
use Rattle.ca_wire.specs.Stream.{Begins}
use Rattle.ca_dgram.proofs.datagram.count.Given as goal

abbrev pub invariant-loop-head : goal.invariant-loop-head
invariant-loop-head l = (ms : List Fields) × Begins l.bytes ms l.rest × (l.count ≡ length ms) × (l.count + length l.rest ≤ length l.bytes)

abbrev pub decreases-loop-head : goal.decreases-loop-head
decreases-loop-head l = length l.rest
