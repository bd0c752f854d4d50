use Rattle.ca_world_servers.proofs.Handled.{none-refused}
use Rattle.ca_world_servers.proofs.handling.begin_in.Goals as goal

pub unreachable-requires : goal.unreachable-requires
unreachable-requires c = none-refused c.args.queue.now c.in-Err.field-0 c.in-Err.ensures.adds.0 c.in-Err.ensures.room.0 c.requires.room c.requires.roomy
