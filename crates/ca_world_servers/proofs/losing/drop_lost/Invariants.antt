use Rattle.std.proofs.Common.{◌≡◌, drop, map}
use Rattle.ca_world_data.specs.declared.joined.AddedSubscription.{AddedSubscription}
use Rattle.ca_world_data.proofs.Counting.{queue_in}
use Rattle.ca_world_servers.specs.Losing.{dropped, is_lost}
use Rattle.ca_world_servers.proofs.losing.drop_lost.Given as goal

-- with those that are left the queues have none of them
abbrev pub invariant-loop-place : goal.invariant-loop-place
invariant-loop-place l =
    record {
      queues :
          map (dropped (is_lost l.lost) (map (λ (s : AddedSubscription). s.key) (drop l.place l.standing.items))) (map queue_in l.queues)
          ≡ map (dropped (is_lost l.lost) (map (λ (s : AddedSubscription). s.key) l.standing.items)) (map queue_in l.initial.queues);
    }
