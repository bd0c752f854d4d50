use Rattle.std.proofs.Common.{◌≡◌, ℕ, ◌<◌, map, None}
use Rattle.ca_text.specs.Place.{At}
use Rattle.ca_queue.specs.Queue.{Queue}
use Rattle.ca_queue.specs.Waiting.{taken}
use Rattle.ca_world_data.proofs.updates.take_number.Given as goal

-- the queues that were looked at gave nothing, and are as they were
abbrev pub invariant-loop-place : goal.invariant-loop-place
invariant-loop-place l =
    record {
      same : map (λ q. q.0) l.queues.items ≡ map (λ q. q.0) l.initial.queues.items;
      none : (i : ℕ) (q : Queue _) → i < l.place → At (map (λ q. q.0) l.initial.queues.items) i q → taken q.events_on q.waiting ≡ None;
    }
