use Rattle.std.specs.Prelude.{map}
use Rattle.ca_world_data.specs.Logs.{lines_in}
use Rattle.ca_world_data.specs.Seen.{joined_of}
use Rattle.ca_world.proofs.Moments.{IsAsFar}
use Rattle.ca_world.proofs.tick.tick_all.Given as goal

-- the clients before this one had the moment, and all others are as they were
abbrev pub invariant-loop-client : goal.invariant-loop-client
invariant-loop-client l =
    record {
      far : IsAsFar l.moment l.client l.initial.clients.items l.clients.items (lines_in l.initial.logs.items) (lines_in l.logs.items) (map joined_of l.initial.circuits.items) (map joined_of l.circuits.items);
    }
