use Rattle.std.proofs.Common.{◌≡◌, map}
use Rattle.ca_queue.specs.Queue.{switched}
use Rattle.ca_world_data.proofs.Counting.{queue_in}
use Rattle.ca_world_data.proofs.Gone.{map_from}
use Rattle.ca_world_servers.proofs.handling.switch_all.Given as goal

-- with those that are left all are switched
abbrev pub invariant-loop-queue : goal.invariant-loop-queue
invariant-loop-queue l =
    record { queues : map_from l.queue-index (switched l.on) (map queue_in l.queues) ≡ map (switched l.on) (map queue_in l.initial.queues) }
