use Rattle.std.proofs.Common.{◌≡◌, ◌≤◌, take}
use Rattle.ca_queue.specs.Ring.{having, keys_of_lasts, waits}
use Rattle.ca_queue.proofs.event_queue.occupied.Given as goal

abbrev pub invariant-loop-number : goal.invariant-loop-number
invariant-loop-number g l = record {
  count : l.occupied ≡ having (waits l.ring) (take l.number (keys_of_lasts l.lasts.0));
  few : l.occupied ≤ l.number;
}
