use Rattle.std.proofs.Common.{true}
use Rattle.ca_queue.proofs.Laid.{laid_none}
use Rattle.ca_queue.proofs.list_queue.ListQueueQueues.new.Goals as goal

pub invariant_of-result : goal.invariant_of-result
invariant_of-result g c = rw (c.new.ensures.items, c.new-2.ensures.items) (laid_none true _ _)
