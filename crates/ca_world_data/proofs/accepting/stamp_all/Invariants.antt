use Rattle.std.proofs.Common.{◌≡◌, ◌++◌, map}
use Rattle.ca_client_core.specs.ForHistories.{sending_of}
use Rattle.ca_world_data.specs.Seen.{names_of, sent_of}
use Rattle.ca_world_data.specs.Speaking.{stamped}
use Rattle.ca_world_data.proofs.accepting.stamp_all.Given as goal

-- the messages that are left make up the rest
abbrev pub invariant-loop-sending : goal.invariant-loop-sending
invariant-loop-sending l =
    record { up : map sent_of l.up.items ++ map (stamped (names_of l.names)) (map sending_of l.sending-iterator.rest.items) ≡ map (stamped (names_of l.names)) (map sending_of l.fn.sendings.items) }
