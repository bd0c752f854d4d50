use Rattle.std.proofs.Common.{◌≡◌, map}
use Rattle.ca_world_data.specs.Seen.{joined_of}
use Rattle.ca_world_data.proofs.Each.{HasRoomUntil}
use Rattle.ca_world_data.proofs.sending.reserve_on_each.Given as goal

-- nothing else changed, and those before this one have room
abbrev pub invariant-loop-place : goal.invariant-loop-place
invariant-loop-place l =
    record {
      same : map joined_of l.circuits.items ≡ map joined_of l.initial.circuits.items;
      room : HasRoomUntil l.messages l.numbers l.place l.circuits.items;
    }
