use Rattle.std.proofs.Common.{◌≡◌, ◌++◌, map, take, drop}
use Rattle.ca_queue.specs.Layout.{recounted}
use Rattle.ca_queue.proofs.list_queue.recount.Given as goal

abbrev pub invariant-loop-s : goal.invariant-loop-s
invariant-loop-s l =
    l.subscriptions ≡ map (recounted l.key l.count) (take l.s-index l.initial.subscriptions) ++ drop l.s-index l.initial.subscriptions
