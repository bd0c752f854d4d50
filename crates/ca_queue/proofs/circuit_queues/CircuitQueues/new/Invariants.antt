use Rattle.std.proofs.Common.{◌≡◌, ◌≤◌, map, replicate}
use Rattle.std.specs.Vec.{vec_capacity, vec_len}
use Rattle.ca_queue.specs.Queue.{no_queue}
use Rattle.ca_queue.proofs.circuit_queues.CircuitQueues.new.Given as goal

abbrev pub invariant-loop : goal.invariant-loop
invariant-loop g l = record {
  are : map g.Q.Queues.contents l.queues.items ≡ replicate l.counter no_queue;
  len : vec_len l.queues ≡ l.counter;
  room : 8 ≤ vec_capacity l.queues;
}
