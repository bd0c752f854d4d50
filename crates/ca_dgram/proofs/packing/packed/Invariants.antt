use Rattle.std.proofs.Common.{◌≡◌, take}
use Rattle.ca_dgram.specs.Packing.{datagram_of}
use Rattle.ca_dgram.proofs.packing.packed.Given as goal

abbrev pub invariant-loop-reply : goal.invariant-loop-reply
invariant-loop-reply l = l.datagram.items ≡ datagram_of (take l.reply-index l.replies)
