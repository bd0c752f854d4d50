use Rattle.std.proofs.Common.{length}
use Rattle.ca_wire.specs.Stream.{Begins}
use Rattle.ca_dgram.proofs.datagram.Datagram.read.Given as goal

abbrev pub invariant-loop-head : goal.invariant-loop-head
invariant-loop-head l = Begins l.bytes l.messages.items l.rest

abbrev pub decreases-loop-head : goal.decreases-loop-head
decreases-loop-head l = length l.rest
