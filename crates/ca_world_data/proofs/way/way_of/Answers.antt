use Rattle.std.proofs.Common.{None, map, refl}
use Rattle.ca_world_data.specs.Seen.{joined_of}
use Rattle.ca_world_data.proofs.Ways.{clear-dead}
use Rattle.ca_world_data.proofs.way.way_of.Goals as goal

pub returns-in-None-clause-clear : goal.returns-in-None-clause-clear
returns-in-None-clause-clear c =
    clear-dead c.args.side.now.core c.args.channel (map joined_of c.args.circuits.now) c.args.client (record { circuit = None; sid = 0; count = 0 }) c.in-None.ensures refl
