use Rattle.std.proofs.Common.{◌≡◌, ◌≤◌, ◌+◌, ◌++◌, drop, length, map}
use Rattle.std.specs.Prelude.{vec_capacity, vec_len}
use Rattle.ca_world_data.specs.Seen.{creation_of, told_of}
use Rattle.ca_world_servers.specs.Losing.{lost_told}
use Rattle.ca_world_servers.proofs.losing.tell_lost.Given as goal

-- the channels that are left make up the rest, and there is room for them
abbrev pub invariant-loop-channel : goal.invariant-loop-channel
invariant-loop-channel l =
    record {
      told : map told_of l.down.items ++ map (lost_told (map creation_of l.creations)) (drop l.channel-index l.lost) ≡ map told_of l.initial.down.items ++ map (lost_told (map creation_of l.creations)) l.lost;
      room : vec_len l.down + length (drop l.channel-index l.lost) ≤ vec_capacity l.down;
    }
