use Rattle.std.proofs.Common.{map, refl}
use Rattle.ca_world_data.specs.declared.cancelling.Cancelling.{Cancelling}
use Rattle.ca_world_data.specs.Seen.{joined_of}
use Rattle.ca_world_data.proofs.Ways.{cancel-way}
use Rattle.ca_world_data.proofs.cancelling.cancel_way.Goals as goal

pub returns-clause-way : goal.returns-clause-way
returns-clause-way c =
    let w : Cancelling = record { handle = c.args.handle; meant = c.args.meant; circuit = c.way_of-way.result.circuit; wanted = c.wanted_on-2.result } in
    cancel-way c.args.side.now.core (map joined_of c.args.circuits.now) c.args.client w c.way_of-way.result c.in-Some.asked c.in-Some.ensures c.way_of-way.ensures.clear refl c.wanted_on-2.ensures
