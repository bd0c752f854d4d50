use Rattle.std.proofs.Common.{◌≡◌, map}
use Rattle.ca_queue.specs.Queue.{cancelled}
use Rattle.ca_world_data.proofs.Counting.{queue_in}
use Rattle.ca_world_data.proofs.Gone.{map_from}
use Rattle.ca_world_servers.proofs.losing.cancel_in.Given as goal

-- with those that are left no queue has it
abbrev pub invariant-loop-queue : goal.invariant-loop-queue
invariant-loop-queue l =
    record { queues : map_from l.queue-index (cancelled l.key) (map queue_in l.queues) ≡ map (cancelled l.key) (map queue_in l.initial.queues) }
