use Rattle.std.proofs.Common.{◌≡◌, ◌≤◌, map, replicate}
use Rattle.std.specs.Vec.{vec_capacity, vec_len}
use Rattle.ca_queue.specs.Queue.{no_queue}
use Rattle.ca_world_data.specs.Seen.{queue_of}
use Rattle.ca_world_data.proofs.accepting.new_queues.Given as goal

-- n were made, and there is room for all
abbrev pub invariant-loop : goal.invariant-loop
invariant-loop l = record {
  are : map (λ q. queue_of q.0) l.queues.items ≡ replicate l.counter no_queue;
  len : vec_len l.queues ≡ l.counter;
  room : 8 ≤ vec_capacity l.queues;
}
