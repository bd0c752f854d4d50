use Rattle.ca_world_servers.proofs.Beginnings.{room-kept}
use Rattle.ca_world.proofs.server_step.begin.Goals as goal

pub tell_on-requires-clause-room : goal.tell_on-requires-clause-room
tell_on-requires-clause-room c =
    room-kept c.args.effect c.args.joined.now c.take_lists-down.new.joined c.take_lists-down.ensures.creations c.take_lists-down.ensures.standing c.take_lists-down.ensures.queues c.requires.room
