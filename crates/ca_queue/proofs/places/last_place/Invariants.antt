use Rattle.std.proofs.Common.{◌≡◌, ◌≤◌, false, length, drop}
use Rattle.ca_queue.specs.Waiting.{has_entry}
use Rattle.ca_queue.proofs.places.last_place.Given as goal

abbrev pub invariant-loop-place : goal.invariant-loop-place
invariant-loop-place g l = record {
  within : l.place ≤ length l.entries.items;
  behind : has_entry l.key (drop l.place l.entries.items) ≡ false;
}

abbrev pub decreases-loop-place : goal.decreases-loop-place
decreases-loop-place g l = l.place
