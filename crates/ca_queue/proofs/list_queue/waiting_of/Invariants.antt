use Rattle.std.proofs.Common.{◌≡◌, drop}
use Rattle.ca_queue.specs.Layout.{count_at}
use Rattle.ca_queue.proofs.list_queue.waiting_of.Given as goal

abbrev pub invariant-loop-s : goal.invariant-loop-s
invariant-loop-s l = count_at l.key (drop l.s-index l.subscriptions) ≡ count_at l.key l.subscriptions
