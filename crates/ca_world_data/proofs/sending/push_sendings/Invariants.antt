use Rattle.std.proofs.Common.{◌≡◌, map}
use Rattle.ca_client_core.specs.ForHistories.{sending_of}
use Rattle.ca_world_data.specs.Found.{AreNumbered}
use Rattle.ca_world_data.specs.Seen.{joined_of, names_of}
use Rattle.ca_world_data.specs.Sends.{HasRoomForAll}
use Rattle.ca_world_data.specs.Speaking.{sent_up}
use Rattle.ca_world_data.proofs.sending.push_sendings.Given as goal

-- with those that are left all are as they are to be, and there is room for them
abbrev pub invariant-loop-sending : goal.invariant-loop-sending
invariant-loop-sending l =
    record {
      numbered : AreNumbered l.numbers (map joined_of l.circuits.items) l.client;
      room : HasRoomForAll l.client l.sending-iterator.rest.items l.circuits.items;
      circuits : map (sent_up l.client (names_of l.names) (map sending_of l.sending-iterator.rest.items)) (map joined_of l.circuits.items) ≡ map (sent_up l.client (names_of l.names) (map sending_of l.fn.sendings.items)) (map joined_of l.initial.circuits.items);
    }
