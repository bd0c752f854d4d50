use Rattle.std.proofs.Common.{map}
use Rattle.ca_queue.specs.Circuit.{RestBefore}
use Rattle.ca_world_data.proofs.updates.gives_some.Given as goal

-- the queues that were looked at give nothing
abbrev pub invariant-loop-queue : goal.invariant-loop-queue
invariant-loop-queue l = record { none : RestBefore (map (λ q. q.0) l.queues) l.queue-index }
