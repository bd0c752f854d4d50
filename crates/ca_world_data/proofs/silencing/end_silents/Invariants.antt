use Rattle.std.proofs.Common.{◌≡◌, length, map}
use Rattle.ca_client_core.specs.Ticked.{lefts_of, notices_of}
use Rattle.ca_model.specs.History.{OfCircuit}
use Rattle.ca_model.specs.ClientEvents.{after_tick, lines_of}
use Rattle.ca_model.specs.World.{grown}
use Rattle.ca_world_data.specs.Found.{AreNumbered}
use Rattle.ca_world_data.specs.Logs.{HasRoom, lines_in}
use Rattle.ca_world_data.specs.Seen.{joined_of, names_of}
use Rattle.ca_world_data.proofs.silencing.end_silents.Given as goal

-- with the ends that are left all is as it is to be
abbrev pub invariant-loop-left : goal.invariant-loop-left
invariant-loop-left l =
    record {
      numbered : AreNumbered l.side.circuits.items (map joined_of l.circuits.items) l.client;
      room : HasRoom (length (notices_of l.left-iterator.rest.items)) l.side.life l.logs.items;
      circuits : map (after_tick l.client (lefts_of l.left-iterator.rest.items)) (map joined_of l.circuits.items) ≡ map (after_tick l.client (lefts_of l.fn.closings.items)) (map joined_of l.initial.circuits.items);
      logs : grown l.side.life (lines_of OfCircuit (names_of l.side.names) (notices_of l.left-iterator.rest.items)) (lines_in l.logs.items)
          ≡ grown l.side.life (lines_of OfCircuit (names_of l.side.names) (notices_of l.fn.closings.items)) (lines_in l.initial.logs.items);
    }
